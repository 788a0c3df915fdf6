use Rattle.std.proofs.Common.{ℕ, ◌+◌, ◌-◌, ◌*◌, length}
use Rattle.sf_base.specs.declared.limits.TheConstants.{STEPS}
use Rattle.sf_core.specs.Program.ProgramView.{program_of}
use Rattle.sf_part.specs.declared.part.Part.{Part}
use Rattle.sf_part.specs.PartView.{part_of}
use Rattle.sf_setup.specs.Checked.Alone.{HasGone}
use Rattle.sf_setup.proofs.+tasks.Given as goal

-- a child is a turn further down, and there are few
abbrev depth : Part → ℕ
depth a = 64 - length (part_of a).part.task

abbrev pub decreases-forks::run_child : goal.decreases-forks::run_child
decreases-forks::run_child g l = 8 * depth l.child.part + 4

abbrev pub decreases-alone::run_alone : goal.decreases-alone::run_alone
decreases-alone::run_alone g l = 8 * depth l.part + 3

abbrev pub decreases-alone::turn : goal.decreases-alone::turn
decreases-alone::turn g l = 8 * depth l.part + 2

abbrev pub decreases-forks::fork : goal.decreases-forks::fork
decreases-forks::fork g l = 8 * depth l.part + 1

abbrev pub decreases-forks::run_both : goal.decreases-forks::run_both
decreases-forks::run_both g l = 8 * depth l.parted.left + 6

abbrev pub decreases-forks::run_both-join+arg2 : goal.decreases-forks::run_both-join+arg2
decreases-forks::run_both-join+arg2 g l = 8 * depth l.one.part + 5

abbrev pub decreases-forks::run_both-join+arg3 : goal.decreases-forks::run_both-join+arg3
decreases-forks::run_both-join+arg3 g l = 8 * depth l.two.part + 5

-- the task has gone on
abbrev pub invariant-alone::run_alone-turns : goal.invariant-alone::run_alone-turns
invariant-alone::run_alone-turns g l = HasGone (program_of l.p.program) l.fn.part l.part

-- and its clock rises
abbrev pub decreases-alone::run_alone-turns : goal.decreases-alone::run_alone-turns
decreases-alone::run_alone-turns g l = STEPS - (part_of l.part).clock
