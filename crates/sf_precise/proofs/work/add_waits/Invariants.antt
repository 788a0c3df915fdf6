use Rattle.std.proofs.Common.{take}
use Rattle.sf_precise.specs.Checked.Work.{AddsWaits}
use Rattle.sf_precise.proofs.work.add_waits.Given as goal

-- for those so far
abbrev pub invariant-loop-n : goal.invariant-loop-n
invariant-loop-n l = AddsWaits l.i (take l.n-index l.ns) l.initial.waiting l.waiting
