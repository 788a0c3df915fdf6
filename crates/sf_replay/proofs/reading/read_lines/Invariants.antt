use Rattle.std.proofs.Common.{◌≤◌, ◌+◌, length}
use Rattle.std.specs.List.{All}
use Rattle.sf_core.specs.Program.ProgramView.{program_of}
use Rattle.sf_lines.specs.Lines.{bytes_left, lines_left}
use Rattle.sf_replay.specs.Checked.Taking.{IsWide, Reading}
use Rattle.sf_replay.specs.declared.limits.TheConstants.{SCHEDULE_BYTES}
use Rattle.sf_replay.proofs.reading.read_lines.Given as goal

abbrev pub invariant-loop-left : goal.invariant-loop-left
invariant-loop-left l =
    Reading (program_of l.p).fields l.fn.before l.number (lines_left l.text) (lines_left l.left) l.schedule.items
    × (l.number + bytes_left l.left ≤ SCHEDULE_BYTES + 1)
    × All (IsWide (length l.p.fields.items)) l.schedule.items

abbrev pub decreases-loop-left : goal.decreases-loop-left
decreases-loop-left l = bytes_left l.left
