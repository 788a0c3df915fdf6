use Rattle.std.proofs.Common.{◌≤◌, ◌+◌, length}
use Rattle.sf_lines.specs.Lines.{bytes_left, lines_left}
use Rattle.sf_replay.specs.Checked.Taking.{Seeking}
use Rattle.sf_replay.proofs.reading.cut.Given as goal

abbrev pub invariant-loop-left : goal.invariant-loop-left
invariant-loop-left l = Seeking l.text l.before (lines_left l.left)
    × (l.before + bytes_left l.left ≤ length l.text + 1)

abbrev pub decreases-loop-left : goal.decreases-loop-left
decreases-loop-left l = bytes_left l.left
