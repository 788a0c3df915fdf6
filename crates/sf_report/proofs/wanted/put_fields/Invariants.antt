use Rattle.std.proofs.Common.{◌≡◌, ◌++◌, codes, drop, []}
use Rattle.sf_core.specs.Program.ProgramView.{program_of}
use Rattle.sf_report.specs.Pieces.{joined}
use Rattle.sf_report.specs.Wanted.{scope_of, wanted_text}
use Rattle.sf_report.proofs.wanted.put_fields.Given as goal

abbrev pub invariant-loop-field : goal.invariant-loop-field
invariant-loop-field l =
    l.initial.text.items ++ joined (wanted_text (program_of l.p) (scope_of l.bound)) [] (codes ",") l.fields
    ≡ l.text.items ++ joined (wanted_text (program_of l.p) (scope_of l.bound)) l.before (codes ",")
    (drop l.field-index l.fields)
