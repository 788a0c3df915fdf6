use Rattle.std.proofs.Common.{◌≡◌}
use Rattle.sf_base.specs.HeapStore.{Slot}
use Rattle.sf_frame.specs.Stores.{is_among}
use Rattle.sf_part.specs.Given.{is_variable_of}
use Rattle.sf_part.proofs.spots.variable_spots.Given as goal

abbrev pub invariant-loop-i : goal.invariant-loop-i
invariant-loop-i l = (slot : Slot) → is_among l.spots.items slot ≡ is_variable_of l.r l.i slot
