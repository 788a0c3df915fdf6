use Rattle.std.proofs.Common.{◌≡◌, ◌∙◌, ◌+◌, ap, arith, length, sym}
use Rattle.sf_lines.specs.Lines.{bytes_left, lines_left}
use Rattle.sf_replay.proofs.Taking.{seek-cut, seek-next}
use Rattle.sf_replay.proofs.reading.cut.Goals as goal

pub returns-then-is_schedule-clause-cut : goal.returns-then-is_schedule-clause-cut
returns-then-is_schedule-clause-cut c = seek-cut c.args.text.now c.next_line.result.0.now
    (lines_left c.loop-left.left) (lines_left c.next_line.result.1) c.loop-left.before
    (ap lines_left c.in-Some.is ∙ c.next_line.ensures.lines) c.loop-left.invariant.0
    (sym c.is_schedule.ensures ∙ c.if-is_schedule.true)

pub loop-left-preserved : goal.loop-left-preserved
loop-left-preserved c =
    let left : bytes_left c.loop-left.left ≡ length c.in-Some.rest.now + 1 = ap bytes_left c.in-Some.is in (
      seek-next c.args.text.now c.next_line.result.0.now (lines_left c.loop-left.left)
          (lines_left c.next_line.result.1) c.loop-left.before
          (ap lines_left c.in-Some.is ∙ c.next_line.ensures.lines) c.loop-left.invariant.0
          (sym c.is_schedule.ensures ∙ c.if-is_schedule.false),
      omega (arith, c.next_line.ensures.shorter, left, c.loop-left.invariant.1),
    )
