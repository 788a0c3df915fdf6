use Rattle.std.proofs.Common.{◌≡◌, drop}
use Rattle.sf_report.specs.Wanted.{first_cell}
use Rattle.sf_report.proofs.wanted.first_cell.Given as goal

abbrev pub invariant-loop-a : goal.invariant-loop-a
invariant-loop-a l = first_cell l.atoms l.t ≡ first_cell (drop l.a-index l.atoms) l.t
