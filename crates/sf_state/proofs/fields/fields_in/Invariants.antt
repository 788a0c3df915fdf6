use Rattle.std.proofs.Common.{◌≡◌, length}
use Rattle.sf_core.specs.Program.ProgramView.{program_of}
use Rattle.sf_lines.specs.Lines.{words}
use Rattle.sf_state.specs.Says.{both, fields_said}
use Rattle.sf_state.proofs.fields.fields_in.Given as goal

abbrev pub invariant-words : goal.invariant-words
invariant-words l = fields_said (program_of l.p).fields (words l.text)
    ≡ both l.fields (fields_said (program_of l.p).fields (words l.left))

abbrev pub decreases-words : goal.decreases-words
decreases-words l = length l.left
