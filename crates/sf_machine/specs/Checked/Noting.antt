-- What is added to a list of things.
-- Ordinary: a list as a set.
use Rattle.std.specs.Prelude.{◌↔◌, ◌⊎◌, List}
use Rattle.sf_base.specs.declared.ids.Thing.{Thing as CodeThing}
use Rattle.sf_base.specs.HeapStore.{Slot}
use Rattle.sf_core.specs.Machine.Enabled.{Thing, variable}
use Rattle.sf_machine.specs.Accessing.{IsListed}
use Rattle.sf_frame.specs.Checked.Spots.{SlotFits}

-- the new list has what the old one has, and those things
abbrev pub Notes : (old new : List CodeThing) → (Thing → Type 0) → Type 0
Notes old new P = (thing : Thing) → IsListed new thing ↔ (IsListed old thing ⊎ P thing)

-- the slots of those things have indices that fit
abbrev pub AreFit : (Thing → Type 0) → Type 0
AreFit P = (slot : Slot) → P (variable slot) → SlotFits slot
