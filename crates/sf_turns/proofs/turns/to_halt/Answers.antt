use Rattle.sf_turns.proofs.Seats.{going-again, going-nowhere}
use Rattle.sf_turns.proofs.turns.to_halt.Goals as goal

pub loop-init : goal.loop-init
loop-init c = going-nowhere c.args.p.now c.args.regions.now c.args.task c.requires

pub returns-in-Other : goal.returns-in-Other
returns-in-Other c =
    going-again c.args.p.now c.args.regions.now c.going_composes.ensures c.args.task c.loop.task
    c.in_ok-next.next c.loop.invariant c.in_ok-next.ensures.gone

pub loop-preserved : goal.loop-preserved
loop-preserved c =
    going-again c.args.p.now c.args.regions.now c.going_composes.ensures c.args.task c.loop.task
    c.in_ok-next.next c.loop.invariant c.in_ok-next.ensures.gone
