-- Worked examples of parts and contents that are a configuration, or aren't: each clause of the definition is needed.
-- Small pictures of who owns what, as in O'Hearn (2007).
use Rattle.std.specs.Prelude.{◌≡◌, ℕ, true, false, cond, leb, List, [], ◌∷◌, Some, None, ◌==◌}
use Rattle.sf_base.specs.declared.ids.ResId.{ResId}
use Rattle.sf_base.specs.declared.path.Turn.TheVariants.{Left as left, Right as right}
use Rattle.sf_base.specs.declared.value.Value.TheVariants.{Nil as nil}
use Rattle.sf_base.specs.HeapStore.{Cell, Heap, Slot, shared, own, same_slot, Store}
use Rattle.sf_core.specs.Checked.Machine.Examples.{lock}
use Rattle.sf_core.specs.Machine.Config.{Frame, Task, runs, waits, Path, Config}
use Rattle.sf_core.specs.Machine.Whole.{Range, Stand, running, waiting, Part, Content, Whole}

-- a cell with nil in all its fields
abbrev pub nils : Cell
nils = λ field. nil

-- one such cell, at that location
abbrev pub cell_at : ℕ → Heap
cell_at location = λ other. cond (other == location) (Some nils) None

-- nil in that slot, and no other slot
abbrev pub nil_in : Slot → Store
nil_in slot = λ other. cond (same_slot other slot) (Some nil) None

-- so many units, from the first on
abbrev pub range : (first count : ℕ) → List Range
range first count = record { first = first; count = count } ∷ []

-- the part of a task that stands so, with nothing of its own
abbrev pub bare : Path → Stand → Part
bare task stand = record {
  task = task;
  stand = stand;
  heap = λ location. None;
  store = λ slot. None;
  holds = λ r. false;
  supply = [];
}

-- a content of the resource, with nothing in it
abbrev pub hollow : Content
hollow = record { resource = lock; heap = λ location. None; store = λ slot. None }

-- another resource
abbrev pub other_lock : ResId
other_lock = record { 0 = 1 }

-- a parent that waits with a frame
abbrev pub parent : Frame → Part
parent f = bare [] (waiting (f ∷ []))

-- its left child: a cell at 1, the first slot of event 1, the other resource, and the units 5 and 6
abbrev pub left_child : Frame → Part
left_child f = record {
  task = left ∷ [];
  stand = running (f ∷ []);
  heap = cell_at 1;
  store = nil_in (own 1 0);
  holds = λ r. r.0 == 1;
  supply = range 5 2;
}

-- its right child: a cell at 2, the second slot of event 1, no resource, and the units 7 and 8
abbrev pub right_child : Frame → Part
right_child f = record {
  task = right ∷ [];
  stand = running (f ∷ []);
  heap = cell_at 2;
  store = nil_in (own 1 1);
  holds = λ r. false;
  supply = range 7 2;
}

-- the content of the resource that is free: its variable, and a cell at 3
abbrev pub home : Content
home = record { resource = lock; heap = cell_at 3; store = nil_in (shared lock 0) }

-- the cells at 1, 2 and 3
abbrev pub three_cells : Heap
three_cells = λ l. cond (l == 1) (Some nils) (cond (l == 2) (Some nils) (cond (l == 3) (Some nils) None))

-- the three slots
abbrev pub three_slots : Store
three_slots = λ s. cond (same_slot s (own 1 0)) (Some nil)
    (cond (same_slot s (own 1 1)) (Some nil) (cond (same_slot s (shared lock 0)) (Some nil) None))

-- the tree of the three tasks
abbrev pub three_tasks : Frame → Task
three_tasks f = waits (f ∷ []) (runs (f ∷ [])) (runs (f ∷ []))

-- all of it: three tasks, three cells, three slots; the left child holds the other resource, and 0 and 1 are used
abbrev pub together : Frame → Config
together f = record {
  common = record {
    heap = three_cells;
    store = three_slots;
    held = λ r. cond (r.0 == 1) (Some (left ∷ [])) None;
  };
  used = λ number. leb number 1;
  tasks = three_tasks f;
}

-- three parts and a content are that configuration
unfoldable pub PartsAndAContentAreWhole : Type 0
PartsAndAContentAreWhole = (f : Frame)
    → Whole (parent f ∷ left_child f ∷ right_child f ∷ []) (home ∷ []) (together f)

-- where both children have one slot, they are no configuration
unfoldable pub SharedSlotsAreNoWhole : Type 0
SharedSlotsAreNoWhole = (f : Frame) (c : Config)
    → Whole (parent f ∷ left_child f ∷ record (right_child f) { store = nil_in (own 1 0) } ∷ []) (home ∷ []) c → ⊥

-- where a content has a task's cell, they are none
unfoldable pub SharedCellsAreNoWhole : Type 0
SharedCellsAreNoWhole = (f : Frame) (c : Config)
    → Whole (parent f ∷ left_child f ∷ right_child f ∷ []) (record home { heap = cell_at 1 } ∷ []) c → ⊥

-- two parts of one path are none
unfoldable pub TwoAtAPathAreNoWhole : Type 0
TwoAtAPathAreNoWhole = (f : Frame) (c : Config)
    → Whole (parent f ∷ left_child f ∷ record (right_child f) { task = left ∷ [] } ∷ []) (home ∷ []) c → ⊥

-- a task of the tree without a part is none
unfoldable pub TasksWithoutPartsAreNoWhole : Type 0
TasksWithoutPartsAreNoWhole = (f : Frame) → Whole (parent f ∷ left_child f ∷ []) (home ∷ []) (together f) → ⊥

-- a child whose parent runs is none, whatever the tree
unfoldable pub ChildrenOfRunningTasksAreNoWhole : Type 0
ChildrenOfRunningTasksAreNoWhole = (f : Frame) (c : Config)
    → Whole (bare [] (running (f ∷ [])) ∷ left_child f ∷ []) [] c → ⊥

-- a part that runs where the task of the tree waits is none
unfoldable pub OtherStandsAreNoWhole : Type 0
OtherStandsAreNoWhole = (f : Frame)
    → Whole (bare [] (running (f ∷ [])) ∷ left_child f ∷ right_child f ∷ []) (home ∷ []) (together f) → ⊥

-- a cell that nobody has is none
unfoldable pub CellsOfNobodyAreNoWhole : Type 0
CellsOfNobodyAreNoWhole = (f : Frame)
    → Whole (parent f ∷ left_child f ∷ right_child f ∷ []) (record home { heap = λ l. None } ∷ []) (together f) → ⊥

-- nor is a slot
unfoldable pub SlotsOfNobodyAreNoWhole : Type 0
SlotsOfNobodyAreNoWhole = (f : Frame)
    → Whole (parent f ∷ left_child f ∷ right_child f ∷ []) (record home { store = λ s. None } ∷ []) (together f) → ⊥

-- a resource that a task holds without its part is none
unfoldable pub HeldByNoPartIsNoWhole : Type 0
HeldByNoPartIsNoWhole = (f : Frame)
    → Whole (parent f ∷ record (left_child f) { holds = λ r. false } ∷ right_child f ∷ []) (home ∷ []) (together f)
    → ⊥

-- a part of another task that holds it is none
unfoldable pub HeldByAnotherIsNoWhole : Type 0
HeldByAnotherIsNoWhole = (f : Frame)
    → Whole (parent f ∷ record (left_child f) { holds = λ r. false }
    ∷ record (right_child f) { holds = λ r. r.0 == 1 } ∷ []) (home ∷ []) (together f) → ⊥

-- a content of a resource that a part holds is none
unfoldable pub ContentsOfHeldResourcesAreNoWhole : Type 0
ContentsOfHeldResourcesAreNoWhole = (f : Frame) (c : Config)
    → Whole (record (bare [] (running (f ∷ []))) { holds = λ r. r.0 == 0 } ∷ []) (hollow ∷ []) c → ⊥

-- two contents of one resource are none
unfoldable pub TwoContentsAreNoWhole : Type 0
TwoContentsAreNoWhole = (f : Frame) (c : Config)
    → Whole (bare [] (running (f ∷ [])) ∷ []) (hollow ∷ hollow ∷ []) c → ⊥

-- one unit in two supplies is none
unfoldable pub SharedUnitsAreNoWhole : Type 0
SharedUnitsAreNoWhole = (f : Frame) (c : Config)
    → Whole (parent f ∷ left_child f ∷ record (right_child f) { supply = range 6 2 } ∷ []) (home ∷ []) c → ⊥

-- a unit that an event has had is none
unfoldable pub UsedUnitsAreNoWhole : Type 0
UsedUnitsAreNoWhole = (f : Frame) (c : Config) → c.used 5 ≡ true
    → Whole (parent f ∷ left_child f ∷ right_child f ∷ []) (home ∷ []) c → ⊥

-- a unit that is a location of the heap is none
unfoldable pub UnitsAtCellsAreNoWhole : Type 0
UnitsAtCellsAreNoWhole = (f : Frame) (c : Config)
    → Whole (parent f ∷ left_child f ∷ right_child f ∷ []) (record home { heap = cell_at 6 } ∷ []) c → ⊥

-- a unit that is the number of a slot is none
unfoldable pub UnitsOfSlotsAreNoWhole : Type 0
UnitsOfSlotsAreNoWhole = (f : Frame) (c : Config)
    → Whole (parent f ∷ left_child f ∷ record (right_child f) { store = nil_in (own 6 1) } ∷ []) (home ∷ []) c → ⊥
