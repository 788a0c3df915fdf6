-- What an event makes of what all tasks share, as the code keeps it.
-- Ordinary: updates of partial maps.
use Rattle.std.specs.Prelude.{◌≡◌, ℕ, ◌+◌, ◌-◌, ◌≤◌, ◌<◌, ◌^◌, true, cond, get_or, length, Some, None, is_some}
use Rattle.std.specs.FinMap.{get}
use Rattle.std.specs.Option.{option_map}
use Rattle.sf_base.specs.declared.ids.ResId.{ResId}
use Rattle.sf_base.specs.declared.value.Value.TheVariants.{Nil as nil, Loc as loc}
use Rattle.sf_base.specs.HeapStore.{Slot, put_field, Store}
use Rattle.sf_core.specs.Machine.Config.{Common, in_room}
use Rattle.sf_core.specs.Machine.Step.{Event, set_slot, set_cell, set_holder, open_room, close_room, free_all_if, index_of}
use Rattle.sf_frame.specs.declared.effect.Effect.{Effect}
use Rattle.sf_frame.specs.declared.effect.Effect.TheVariants.{Edits, Make, Hold, Open, OpenBoth}
use Rattle.sf_frame.specs.declared.effect.Edit.{Edit}
use Rattle.sf_frame.specs.declared.effect.Edit.TheVariants.{Nothing, Set, Put, Remove, Free, Close}
use Rattle.sf_frame.specs.declared.effect.Opening.{Opening}
use Rattle.sf_core.specs.Program.Syntax.{Program}
use Rattle.sf_heap.specs.Cells.{Cells, FieldValues}
use Rattle.sf_frame.specs.Spots.{slot_of}
use Rattle.sf_frame.specs.Frames.{room_of}

-- a room comes up in a store
abbrev pub opened_store : Opening → Store → Store
opened_store o store slot = cond (in_room (room_of o.room) slot)
    (Some (get_or o.values.items (index_of slot - o.room.first) nil)) (store slot)

-- a room comes up
abbrev pub opened : Opening → Common → Common
opened o s = open_room (room_of o.room) (λ i. get_or o.values.items i nil) s

-- what an edit makes of what is shared
abbrev pub edited : Edit → Common → Common
edited Nothing s = s
edited (Set spot v) s = set_slot (slot_of spot) v s
edited (Put at f v) s = set_cell at (option_map (λ k. put_field k f.0 v) (s.heap at)) s
edited (Remove at) s = set_cell at None s
edited (Free r) s = set_holder r None s
edited (Close room all) s = free_all_if all (close_room (room_of room) s)

-- what the effect makes of it
abbrev pub applied : Event → Effect → Common → Common
applied ev (Edits e) s = edited e s
applied ev (Make spot) s = set_slot (slot_of spot) (loc ev.at) (set_cell ev.at (Some ev.fields) s)
applied ev (Hold r) s = set_holder r (Some ev.task) s
applied ev (Open o) s = opened o s
applied ev (OpenBoth o q) s = opened q (opened o s)

-- the effect is more than an edit
abbrev pub IsMore : Effect → Type 0
IsMore (Edits e) = ⊥
IsMore _ = Unit {0}

-- the slots of a room are absent, and their indices fit
abbrev pub IsClearStore : Opening → Store → Type 0
IsClearStore o store = (o.room.first + o.room.count ≤ 2 ^ 32)
    × ((slot : Slot) → in_room (room_of o.room) slot ≡ true → store slot ≡ None)

-- what an edit changes is there
abbrev pub SuitsEdit : Edit → Common → Type 0
SuitsEdit (Set spot v) s = is_some (s.store (slot_of spot)) ≡ true
SuitsEdit (Put at f v) s = is_some (s.heap at) ≡ true
SuitsEdit _ s = Unit {0}

-- what the effect changes is there, and what it makes is absent
abbrev pub Suits : Event → Effect → Common → Type 0
Suits ev (Edits e) s = SuitsEdit e s
Suits ev (Make spot) s = (is_some (s.store (slot_of spot)) ≡ true) × (s.heap ev.at ≡ None)
Suits ev (Hold r) s = Unit {0}
Suits ev (Open o) s = IsClearStore o s.store
Suits ev (OpenBoth o q) s = IsClearStore o s.store × IsClearStore q (opened_store o s.store)

-- a field that it sets is one of the program's
abbrev pub EditWithin : Program → Edit → Type 0
EditWithin p (Put at f v) = f.0 < length p.fields
EditWithin p _ = Unit {0}

abbrev pub EffectWithin : Program → Effect → Type 0
EffectWithin p (Edits e) = EditWithin p e
EffectWithin p _ = Unit {0}

-- a cell in which it sets a field has that field
abbrev pub EditHasField : Edit → Cells → Type 0
EditHasField (Put at f v) cells = (values : FieldValues) → get cells at ≡ Some values
    → f.0 < length values
EditHasField _ cells = Unit {0}

abbrev pub HasField : Effect → Cells → Type 0
HasField (Edits e) cells = EditHasField e cells
HasField _ cells = Unit {0}

-- the two are the same at each location, slot and resource
pub record IsSameCommon (s t : Common) : Type 0 where
  pub heap : (location : ℕ) → s.heap location ≡ t.heap location
  pub store : (slot : Slot) → s.store slot ≡ t.store slot
  pub held : (r : ResId) → s.held r ≡ t.held r
