-- Start: where a procedure may start, with its precondition and all invariants on disjoint cells, or with the procedure
-- that sets the resources up on top of it.
-- O'Hearn (2007); Brookes (2007): the state at the start of a program with resources.
use Rattle.std.specs.Prelude.{◌≡◌, ℕ, cond, true, false, ltb, List, [], ◌∷◌, Option, Some, None, length, ◌==◌, ◌+◌, ◌<◌, ◌≤◌}
use Rattle.std.specs.List.{slice_get}
use Rattle.sf_base.specs.declared.ids.ProcId.{ProcId}
use Rattle.sf_base.specs.declared.ids.ResId.{ResId}
use Rattle.sf_base.specs.declared.ids.Var.{Var}
use Rattle.sf_base.specs.declared.ids.Var.TheVariants.{Own, Shared}
use Rattle.sf_base.specs.declared.value.Value.{Value}
use Rattle.sf_base.specs.declared.value.Value.TheVariants.{Nil as nil}
use Rattle.sf_core.specs.Machine.Config.{items, Frame, runs, Path, Config, evaluate}
use Rattle.sf_base.specs.HeapStore.{Heap, IsEmpty, Slot, shared, own, Store, ◌⋆◌}
use Rattle.sf_core.specs.Machine.HasThroughout.{HasThroughout}
use Rattle.sf_core.specs.Assertions.Sat.{Sat}
use Rattle.sf_core.specs.Machine.Step.{procedure_at, room_for}
use Rattle.sf_core.specs.Program.Init.{is_init}
use Rattle.sf_core.specs.Program.Syntax.{Procedure, Program, Resource}

-- where the entry's own variables and those of the resources are kept: its frame has number 0
abbrev pub entry_slot : Var → Slot
entry_slot (Own i) = own 0 i
entry_slot (Shared r i) = shared r i

-- the entry's frame with its whole body to do
abbrev pub entry_frame : ProcId → Procedure → Frame
entry_frame f g = record {
  fixed = record {
    procedure = f;
    slots = entry_slot;
    room = room_for g 0 g.references;
  };
  todo = items g.body;
}

-- how a run begins: with its resources settled, or fresh, with the procedure of that number, this one, that sets them
-- up first
pub data Beginning : Type 0 where
  settled : Beginning
  fresh : ProcId → Procedure → Beginning

-- where the variables of the procedure that sets the resources up are kept: its own ones have the indices from there on
abbrev pub init_slot : (first : ℕ) → Var → Slot
init_slot first (Own i) = own 0 (first + i)
init_slot first (Shared r i) = shared r i

-- its frame with its whole body to do: its room comes after the entry's own variables
abbrev pub init_frame : ProcId → Procedure → (first : ℕ) → Frame
init_frame f g first = record {
  fixed = record {
    procedure = f;
    slots = init_slot first;
    room = room_for g 0 first;
  };
  todo = items g.body;
}

-- the frames with which procedure f starts, the innermost first: its own alone, or on top of it that of the procedure
-- that sets the resources up
abbrev pub first_frames : Beginning → ProcId → Procedure → List Frame
first_frames settled f g = entry_frame f g ∷ []
first_frames (fresh n h) f g = init_frame n h (length g.names) ∷ entry_frame f g ∷ []

-- who holds each resource of the program then: nobody, or the entry's task
abbrev pub first_holders : Beginning → Program → ResId → Option Path
first_holders settled p r = None
first_holders (fresh n h) p r = cond (ltb r.0 (length p.resources)) (Some []) None

-- how many slots of number 0 there are then: those of the entry, and after them those of the procedure that sets the
-- resources up
abbrev pub first_count : Beginning → Procedure → ℕ
first_count settled g = length g.names
first_count (fresh n h) g = length g.names + length h.names

-- the configuration in which procedure f starts: one task with its first frames, the first holders, and no number used
-- but that of the start
abbrev pub initial_config : Beginning → Program → ProcId → Procedure → Store → Heap → Config
initial_config b p f g store heap = record {
  common = record { heap = heap; store = store; held = first_holders b p };
  used = λ number. number == 0;
  tasks = runs (first_frames b f g);
}

-- the slot is one of number 0 that is there then, or of the resources of the program
abbrev pub IsKept : Beginning → Program → Procedure → Slot → Type 0
IsKept b p g (own e i) = (e ≡ 0) × (i < first_count b g)
IsKept b p g (shared r i) = (of : Resource) × (slice_get p.resources r.0 ≡ Some of)
    × (i < length of.variables)

-- one heap for each of the resources, which satisfies its invariant, and all these disjoint
abbrev pub Invariants : List Resource → Store → Heap → Type 0
Invariants [] store heap = IsEmpty heap
Invariants (r ∷ rs) store heap =
    (Sat r.invariant.level (evaluate entry_slot store) (λ n. nil) ⋆ Invariants rs store) heap

-- the precondition holds of that store and heap
abbrev pub MeetsPre : Procedure → Store → Heap → Type 0
MeetsPre g store heap = Sat g.pre.level (evaluate entry_slot store) (λ n. nil) heap

-- the resources and the heap as a run begins with them. Settled: the precondition and the invariants hold of disjoint
-- heaps that make up the heap. Fresh: the procedure is the one that sets the resources up, their variables are nil, and
-- the precondition holds of the heap
abbrev pub BeginsWith : Beginning → Program → Procedure → Store → Heap → Type 0
BeginsWith settled p g store heap = (MeetsPre g store ⋆ Invariants p.resources store) heap
BeginsWith (fresh n h) p g store heap = (procedure_at p n ≡ Some h) × (is_init h ≡ true)
    × ((r : ResId) (i : ℕ) (v : Value) → store (shared r i) ≡ Some v → v ≡ nil) × MeetsPre g store heap

-- Start: procedure f starts with this store and this heap, settled or fresh
pub record Start (p : Program) (f : ProcId) (store : Store) (heap : Heap) (c : Config) : Type 0 where
  pub procedure : Procedure
  pub there : procedure_at p f ≡ Some procedure
  pub beginning : Beginning
  pub is : c ≡ initial_config beginning p f procedure store heap
  -- no resource counts as held through its body, and it isn't the one that sets the resources up
  pub holds_none : (r : ResId) → HasThroughout p f r → ⊥
  pub no_init : is_init procedure ≡ false
  -- the store has the variables of the first frames and those of the resources, and no others
  pub kept : (slot : Slot) → IsKept beginning p procedure slot → (v : Value) × (store slot ≡ Some v)
  pub no_more : (slot : Slot) (v : Value) → store slot ≡ Some v → IsKept beginning p procedure slot
  -- locals, which come after the entry's references and values, are nil
  pub locals : (i : ℕ) → procedure.references + procedure.values ≤ i → i < first_count beginning procedure
      → store (own 0 i) ≡ Some nil
  pub begins : BeginsWith beginning p procedure store heap
