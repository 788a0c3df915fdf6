use Rattle.sf_turns.specs.Checked.Seats.{HasGone}
use Rattle.sf_turns.proofs.turns.first_unlike.Given as goal

-- the task has gone on
abbrev pub invariant-loop-number : goal.invariant-loop-number
invariant-loop-number l = HasGone l.fn.p l.fn.regions l.fn.task l.task
