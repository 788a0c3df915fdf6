use Rattle.std.proofs.Common.{◌≡◌, ◌++◌, codes, drop}
use Rattle.sf_core.specs.Program.ProgramView.{program_of}
use Rattle.sf_report.specs.Pieces.{joined, value_text}
use Rattle.sf_report.proofs.pieces.put_vars.Given as goal

abbrev pub invariant-loop-value : goal.invariant-loop-value
invariant-loop-value l =
    l.initial.text.items ++ joined (value_text (program_of l.p) l.f) (codes " ") (codes ", ") l.vars
    ≡ l.text.items ++ joined (value_text (program_of l.p) l.f) l.before (codes ", ") (drop l.value-index l.vars)
