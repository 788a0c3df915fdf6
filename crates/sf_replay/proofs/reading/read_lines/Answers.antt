use Rattle.std.proofs.Common.{◌≡◌, ◌∙◌, ◌+◌, ap, arith, length}
use Rattle.sf_core.specs.Program.ProgramView.{program_of}
use Rattle.sf_lines.specs.Lines.{bytes_left, lines_left}
use Rattle.sf_replay.proofs.Taking.{read-more}
use Rattle.sf_replay.proofs.reading.read_lines.Goals as goal

pub loop-left-preserved : goal.loop-left-preserved
loop-left-preserved c =
    let left : bytes_left c.loop-left.left ≡ length c.in-Some.rest.now + 1 = ap bytes_left c.in-Some.is in (
      read-more (program_of c.args.p.now).fields c.args.before c.loop-left.number (lines_left c.args.text)
          (lines_left c.loop-left.left) (lines_left c.next_line.result.1) c.next_line.result.0.now
          c.loop-left.schedule.items c.read_line.new.schedule.items
          (ap lines_left c.in-Some.is ∙ c.next_line.ensures.lines) c.loop-left.invariant.0
          c.in_ok-read_line.ensures.taken.0 c.in_ok-read_line.ensures.taken.1,
      omega (arith, c.next_line.ensures.shorter, left, c.loop-left.invariant.1),
      c.in_ok-read_line.ensures.wide c.loop-left.invariant.2,
    )
