use Rattle.std.proofs.Common.{◌≡◌, ◌++◌, codes, drop, []}
use Rattle.sf_core.specs.Program.ProgramView.{program_of}
use Rattle.sf_report.specs.Pieces.{joined, known_text}
use Rattle.sf_report.proofs.pieces.put_fields.Given as goal

abbrev pub invariant-loop-field : goal.invariant-loop-field
invariant-loop-field l =
    l.initial.text.items ++ joined (known_text (program_of l.p)) ([]) (codes ",") l.fields
    ≡ l.text.items ++ joined (known_text (program_of l.p)) l.before (codes ",") (drop l.field-index l.fields)
