use Rattle.sf_turns.specs.Checked.Seats.{HasGone}
use Rattle.sf_turns.proofs.turns.to_halt.Given as goal

-- the task has gone on
abbrev pub invariant-loop : goal.invariant-loop
invariant-loop l = HasGone l.fn.p l.fn.regions l.fn.task l.task
