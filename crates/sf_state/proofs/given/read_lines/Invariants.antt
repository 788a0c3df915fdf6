use Rattle.std.proofs.Common.{◌≤◌, ◌+◌, length}
use Rattle.sf_core.specs.Program.ProgramView.{program_of}
use Rattle.sf_state.specs.Checked.Keeping.{Reading}
use Rattle.sf_lines.specs.Lines.{bytes_left, lines_left}
use Rattle.sf_state.proofs.given.read_lines.Given as goal

abbrev pub invariant-loop-left : goal.invariant-loop-left
invariant-loop-left l = record {
  reading : Reading (program_of l.p).fields l.names l.text l.before (lines_left l.left) l.given;
  room : l.before + bytes_left l.left ≤ length l.text + 1;
}

abbrev pub decreases-loop-left : goal.decreases-loop-left
decreases-loop-left l = bytes_left l.left
