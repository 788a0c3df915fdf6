-- The first frames of a run.
-- Names: `entry_LAW` and `init_LAW`.
use Rattle.std.specs.Prelude.{◌≡◌, ℕ, zero, suc, ◌+◌, ◌-◌, ◌<◌, ◌≤◌, List, [], ◌∷◌, ◌++◌, length, slice_get, Some}
use Rattle.std.proofs.Common.{sym, ap, ◌∙◌, refl, subst, inl, inr, arith, length-append}
use Rattle.std.proofs.lemmas.Bool.{cases_lt}
use Rattle.sf_base.proofs.Lookup.{get-push_before, get-push_last}
use Rattle.sf_base.specs.declared.ids.ProcId.{ProcId}
use Rattle.sf_base.specs.declared.ids.Var.{Var}
use Rattle.sf_base.specs.declared.ids.Var.TheVariants.{Own as own_variable, Shared as shared_variable}
use Rattle.sf_base.specs.HeapStore.{own}
use Rattle.sf_core.specs.declared.command.Command.{Command as CodeCommand}
use Rattle.sf_core.specs.declared.program.Proc.{Proc}
use Rattle.sf_core.specs.Machine.Config.{Item, items}
use Rattle.sf_core.specs.Machine.Start.{entry_slot, entry_frame, init_slot, init_frame}
use Rattle.sf_core.specs.Program.View.{block_of, command_of, procedure_of}
use Rattle.sf_frame.specs.declared.frame.Frame.{Frame as CodeFrame}
use Rattle.sf_frame.specs.declared.frame.Room.{Room as CodeRoom}
use Rattle.sf_frame.specs.declared.spot.Spot.{Spot}
use Rattle.sf_frame.specs.declared.spot.Spot.TheVariants.{Own}
use Rattle.sf_frame.specs.Checked.Entries.{AreEntrySpots}
use Rattle.sf_frame.specs.Spots.{slot_of}
use Rattle.sf_frame.specs.Frames.{block_items, frame_of, own_slot_in, slots_in, todo_of}
use Rattle.sf_frame.proofs.Stacks.{own_slot_none}

-- no slots
pub entry_none : AreEntrySpots 0 []
entry_none = record { length = refl; at = λ k l. absurd (omega (arith, l)) }

-- one slot more
pub entry_more : (n : ℕ) (spots new : List Spot) → AreEntrySpots n spots → new ≡ spots ++ Own 0 n ∷ []
    → AreEntrySpots (n + 1) new
entry_more n spots new h e = subst (AreEntrySpots (n + 1)) (sym e) (record { length = count; at = at })
  where
    count : length (spots ++ Own 0 n ∷ []) ≡ n + 1
    count = omega (arith, length-append spots (Own 0 n ∷ []), h.length)

    at : (k : ℕ) → k < n + 1 → slice_get (spots ++ Own 0 n ∷ []) k ≡ Some (Own 0 k)
    at k l = elim (cases_lt k n) [
      | inl b ↦ get-push_before spots (Own 0 n) k (omega (arith, b, h.length)) ∙ h.at k b
      | inr m ↦
          let last : k ≡ length spots = omega (arith, m, l, h.length) in
          let same : k ≡ n = omega (arith, m, l) in
          ap (slice_get (spots ++ Own 0 n ∷ [])) last ∙ get-push_last spots (Own 0 n)
          ∙ ap (λ z. Some (Own 0 z)) (sym same)
    ]

-- a reference names what its slot is
entry_reference : (ss : List Spot) (room : CodeRoom) (i : ℕ) (s : Spot) → slice_get ss i ≡ Some s
    → own_slot_in ss room i ≡ slot_of s
entry_reference [] room i s e = cc
entry_reference (t ∷ ts) room zero s e = ap slot_of (let same : t ≡ s = cc in same)
entry_reference (t ∷ ts) room (suc i) s e = entry_reference ts room i s e

-- the entry's variables name their own slots
pub entry_slots : (ss : List Spot) (room : CodeRoom) (n : ℕ) → AreEntrySpots n ss → room.event ≡ 0
    → room.first ≡ n → (x : Var) → slots_in ss room x ≡ entry_slot x
entry_slots ss room n h e f (shared_variable r i) = refl
entry_slots ss room n h e f (own_variable i) = elim (cases_lt i n) [
  | inl b ↦ entry_reference ss room i (Own 0 i) (h.at i b)
  | inr m ↦
      let past : length ss ≤ i = omega (arith, m, h.length) in
      let place : room.first + (i - length ss) ≡ i = omega (arith, m, f, h.length) in
      own_slot_none ss room i past ∙ (λ k. own (e k) (place k))
]

-- the commands of a block, each as one thing to do
pub items_block : (cs : List CodeCommand) → block_items cs ≡ items (block_of cs)
items_block [] = refl
items_block (c ∷ cs) = ap (λ (z : List Item). Rattle.sf_core.specs.Machine.Config.command (command_of c) ∷ z) (items_block cs)

-- the entry's frame
pub entry_is : (f : ProcId) (g : Proc) (frame : CodeFrame) → frame.procedure ≡ f
    → AreEntrySpots g.references frame.references.items → frame.room.event ≡ 0
    → frame.room.first ≡ g.references → frame.room.count ≡ length g.names.items - g.references
    → todo_of frame.todo.items ≡ block_items g.body.items → frame_of frame ≡ entry_frame f (procedure_of g)
entry_is f g frame e h ev first count todo = λ i. record {
  fixed = record {
    procedure = e i;
    slots = λ x. entry_slots frame.references.items frame.room g.references h ev first x i;
    room = record { event = ev i; first = first i; count = count i };
  };
  todo = (todo ∙ items_block g.body.items) i;
}

-- the variables of the procedure that sets the resources up name their own slots
init_slots : (ss : List Spot) (room : CodeRoom) (first : ℕ) → ss ≡ [] → room.event ≡ 0 → room.first ≡ first
    → (x : Var) → slots_in ss room x ≡ init_slot first x
init_slots ss room first none e f (shared_variable r i) = refl
init_slots ss room first none e f (own_variable i) =
    ap (λ z. own_slot_in z room i) none ∙ (λ k. own (e k) (f k + i))

-- its frame
pub init_is : (n : ProcId) (g : Proc) (first : ℕ) (frame : CodeFrame) → frame.procedure ≡ n
    → frame.references.items ≡ [] → frame.room.event ≡ 0 → frame.room.first ≡ first
    → frame.room.count ≡ length g.names.items - g.references
    → todo_of frame.todo.items ≡ block_items g.body.items → frame_of frame ≡ init_frame n (procedure_of g) first
init_is n g first frame e none ev at count todo = λ i. record {
  fixed = record {
    procedure = e i;
    slots = λ x. init_slots frame.references.items frame.room first none ev at x i;
    room = record { event = ev i; first = at i; count = count i };
  };
  todo = (todo ∙ items_block g.body.items) i;
}
