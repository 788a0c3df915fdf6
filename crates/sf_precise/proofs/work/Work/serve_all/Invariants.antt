use Rattle.std.proofs.Common.{take}
use Rattle.sf_precise.specs.Checked.Work.{Serves}
use Rattle.sf_precise.proofs.work.Work.serve_all.Given as goal

-- for those so far
abbrev pub invariant-loop-i : goal.invariant-loop-i
invariant-loop-i l = Serves (take l.i-index l.jobs) l.initial.self l.self
