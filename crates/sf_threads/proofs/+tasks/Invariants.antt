use Rattle.std.proofs.Common.{◌+◌, ◌-◌, ◌*◌}
use Rattle.sf_base.specs.declared.limits.TheConstants.{STEPS}
use Rattle.sf_core.specs.Program.ProgramView.{program_of}
use Rattle.sf_part.specs.PartView.{part_of}
use Rattle.sf_threads.proofs.Moves.{IsOnItsWay, below}
use Rattle.sf_threads.proofs.+tasks.Given as goal

abbrev pub decreases-forks::fork-join+arg2 : goal.decreases-forks::fork-join+arg2
decreases-forks::fork-join+arg2 g l = 6 * below l.one.task + 4

abbrev pub decreases-forks::fork-join+arg3 : goal.decreases-forks::fork-join+arg3
decreases-forks::fork-join+arg3 g l = 6 * below l.two.task + 4

abbrev pub decreases-forks::run_child : goal.decreases-forks::run_child
decreases-forks::run_child g l = 6 * below l.child.task + 3

abbrev pub decreases-tasks::run_task : goal.decreases-tasks::run_task
decreases-tasks::run_task g l = 6 * below l.task + 2

abbrev pub decreases-tasks::turn : goal.decreases-tasks::turn
decreases-tasks::turn g l = 6 * below l.task + 1

abbrev pub decreases-forks::fork : goal.decreases-forks::fork
decreases-forks::fork g l = 6 * below l.task

abbrev pub invariant-tasks::run_task-loop-next : goal.invariant-tasks::run_task-loop-next
invariant-tasks::run_task-loop-next g l =
    IsOnItsWay (program_of l.crew.program.now.program) l.crew.regions.now l.fn.task l.current

abbrev pub decreases-tasks::run_task-loop-next : goal.decreases-tasks::run_task-loop-next
decreases-tasks::run_task-loop-next g l = STEPS - (part_of l.current.1).clock
