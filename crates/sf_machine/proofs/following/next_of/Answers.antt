use Rattle.std.proofs.Common.{ap, subst, sym}
use Rattle.sf_core.specs.Machine.Config.{runs, IsOver}
use Rattle.sf_frame.specs.Frames.{stack_of}
use Rattle.sf_machine.specs.Checked.Nexts.{IsNext}
use Rattle.sf_machine.specs.Tasks.{task_of}
use Rattle.sf_machine.proofs.Steps.{next_runs}
use Rattle.sf_machine.proofs.following.next_of.Goals as goal

pub returns-then-is_over-2 : goal.returns-then-is_over-2
returns-then-is_over-2 c = (
  _,
  _,
  _,
  ap task_of c.in-Waits.is,
  subst IsOver (ap task_of c.as_ref.ensures) (c.is_over.ensures.0 c.if-is_over.true),
  subst IsOver (ap task_of c.as_ref-then-is_over.ensures)
      (c.is_over-then-is_over.ensures.0 c.if-is_over-2.true),
)

pub returns-in-Runs : goal.returns-in-Runs
returns-in-Runs c = rw c.in-Runs.is
    (subst (IsNext (runs (stack_of c.in-Runs.stack)) c.args.is_entry) (sym c.of_stack.ensures)
    (next_runs (stack_of c.in-Runs.stack) c.args.is_entry c.next_of.result c.next_of.ensures))
