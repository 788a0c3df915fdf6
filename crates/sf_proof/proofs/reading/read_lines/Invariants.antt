use Rattle.std.proofs.Common.{◌≡◌, ◌≤◌, ◌+◌, length}
use Rattle.sf_lines.specs.Lines.{bytes_left, lines, lines_left}
use Rattle.sf_core.specs.Program.ProgramView.{program_of}
use Rattle.sf_proof.specs.Checked.Walk.{read_after, reading}
use Rattle.sf_proof.proofs.reading.read_lines.Given as goal

abbrev pub invariant-loop-left : goal.invariant-loop-left
invariant-loop-left l = record {
  read : reading (program_of l.p) 0 (lines l.text)
      ≡ read_after l.found (reading (program_of l.p) l.before (lines_left l.left));
  room : l.before + bytes_left l.left ≤ length l.text + 1;
}

abbrev pub decreases-loop-left : goal.decreases-loop-left
decreases-loop-left l = bytes_left l.left
