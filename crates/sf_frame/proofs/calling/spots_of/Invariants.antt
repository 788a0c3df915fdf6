use Rattle.std.proofs.Common.{take}
use Rattle.sf_frame.specs.Checked.Calls.{AreReferences}
use Rattle.sf_frame.specs.Frames.{fixed_of}
use Rattle.sf_frame.proofs.calling.spots_of.Given as goal

-- so many have their slots
abbrev pub invariant-loop-x : goal.invariant-loop-x
invariant-loop-x l = AreReferences (fixed_of l.caller).slots (take l.x-index l.references) l.spots.items
