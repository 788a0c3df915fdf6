use Rattle.sf_turns.proofs.Seats.{going-again}
use Rattle.sf_turns.proofs.seated.Seated.rejoined.Goals as goal

pub to_halt-requires : goal.to_halt-requires
to_halt-requires c =
    let joins = rw c.in-Some.is at c.in_ok-task.ensures in
    (joins c.requires.0 c.requires.1).now

pub returns : goal.returns
returns c =
    let joins = rw c.in-Some.is at c.in_ok-task.ensures in
    λ k h. going-again c.args.p.now c.args.regions.now c.going_composes.ensures k c.in-Some.task
    c.in_ok-task-2.task (joins k h) c.in_ok-task-2.ensures
