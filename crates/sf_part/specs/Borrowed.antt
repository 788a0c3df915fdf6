-- Borrowed: the variables that a task was lent at the fork that made it, which it still has.
-- O'Hearn (2007): what the parallel rule splits it puts together again.
use Rattle.std.specs.Prelude.{◌≡◌, ◌&&◌, ◌||◌, Bool, true, false, List, [], ◌∷◌, is_some}
use Rattle.std.specs.List.{slice_get}
use Rattle.sf_base.specs.declared.ids.ResId.{ResId}
use Rattle.sf_base.specs.HeapStore.{Slot, Store}
use Rattle.sf_core.specs.Machine.Config.{Frame, in_room}
use Rattle.sf_core.specs.Machine.Whole.{Part, Content}
use Rattle.sf_core.specs.Program.Formed.{variable_count}
use Rattle.sf_core.specs.Program.Syntax.{Program}
use Rattle.sf_part.specs.Given.{is_variable_of}
use Rattle.sf_part.specs.Of.{frames_in}

-- the slots that two stores have both: what a parent had before a fork, and the child has after it
abbrev pub in_both : Store → Store → Slot → Bool
in_both one other slot = is_some (one slot) && is_some (other slot)

-- whether a slot is in the room of one of the frames
abbrev pub in_rooms : List Frame → Slot → Bool
in_rooms [] slot = false
in_rooms (f ∷ frames) slot = in_room f.fixed.room slot || in_rooms frames slot

-- whether a slot is that of a variable of that resource of the program
abbrev pub is_resource_slot : Program → ResId → Slot → Bool
is_resource_slot p r slot = is_variable_of r (variable_count (slice_get p.resources r.0)) slot

-- the content has just the variables of its resource
abbrev pub HasJustVariables : Program → Content → Type 0
HasJustVariables p k = (slot : Slot) → is_some (k.store slot) ≡ is_resource_slot p k.resource slot

-- StillHas: the part has these slots, and will not give them up: they are in no room of its frames,
-- and none is that of a variable of a resource that it holds
pub record StillHas (p : Program) (lent : Slot → Bool) (a : Part) : Type 0 where
  pub there : (slot : Slot) → lent slot ≡ true → is_some (a.store slot) ≡ true
  pub outside : (slot : Slot) → lent slot ≡ true → in_rooms (frames_in a.stand) slot ≡ false
  pub apart : (slot : Slot) (r : ResId) → lent slot ≡ true → a.holds r ≡ true
      → is_resource_slot p r slot ≡ false
