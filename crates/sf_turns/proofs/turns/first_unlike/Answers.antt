use Rattle.sf_turns.proofs.Seats.{going-again, going-nowhere}
use Rattle.sf_turns.proofs.turns.first_unlike.Goals as goal

pub loop-number-init : goal.loop-number-init
loop-number-init c = going-nowhere c.args.p.now c.args.regions.now c.args.task c.requires

pub returns-then-ne : goal.returns-then-ne
returns-then-ne c =
    going-again c.args.p.now c.args.regions.now c.going_composes.ensures c.args.task
    c.loop-number.task c.in_ok-next.next c.loop-number.invariant c.in_ok-next.ensures.gone

pub loop-number-preserved : goal.loop-number-preserved
loop-number-preserved c =
    going-again c.args.p.now c.args.regions.now c.going_composes.ensures c.args.task
    c.loop-number.task c.in_ok-next.next c.loop-number.invariant c.in_ok-next.ensures.gone
