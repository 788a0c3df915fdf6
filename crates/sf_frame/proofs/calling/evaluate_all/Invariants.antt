use Rattle.std.proofs.Common.{◌≡◌, map, take}
use Rattle.sf_core.specs.Machine.Config.{evaluate}
use Rattle.sf_frame.specs.Stores.{store_of}
use Rattle.sf_frame.specs.Frames.{fixed_of}
use Rattle.sf_frame.proofs.calling.evaluate_all.Given as goal

-- so many have their values
abbrev pub invariant-loop-e : goal.invariant-loop-e
invariant-loop-e l =
    l.values.items ≡ map (evaluate (fixed_of l.frame).slots (store_of l.store)) (take l.e-index l.all)
