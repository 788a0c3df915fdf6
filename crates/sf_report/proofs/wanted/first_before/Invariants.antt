use Rattle.std.proofs.Common.{◌≡◌, drop}
use Rattle.sf_report.specs.Wanted.{first_before}
use Rattle.sf_report.proofs.wanted.first_before.Given as goal

abbrev pub invariant-loop-a : goal.invariant-loop-a
invariant-loop-a l = first_before l.atoms l.t ≡ first_before (drop l.a-index l.atoms) l.t
