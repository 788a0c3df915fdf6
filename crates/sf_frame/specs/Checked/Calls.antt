-- What a call hands to its callee, as the code keeps it.
-- Ordinary: lists by their places.
use Rattle.std.specs.Prelude.{◌≡◌, List, map}
use Rattle.sf_base.specs.declared.ids.Var.{Var}
use Rattle.sf_base.specs.HeapStore.{Slot}
use Rattle.sf_core.specs.declared.command.Occurrence.{Occurrence}
use Rattle.sf_frame.specs.declared.spot.Spot.{Spot}
use Rattle.sf_frame.specs.Spots.{slot_of}

-- the slots are those that the caller's variables name
abbrev pub AreReferences : (caller : Var → Slot) → List Occurrence → List Spot → Type 0
AreReferences caller xs spots = map slot_of spots ≡ map (λ x. caller x.var) xs
