use Rattle.std.proofs.Common.{◌∙◌, ℕ, sym, refl, subst}
use Rattle.sf_core.specs.Machine.Step.{Event}
use Rattle.sf_frame.specs.Checked.Plans.{IsReady, Plans}
use Rattle.sf_heap.specs.Cells.{cell_of}
use Rattle.sf_core.specs.Program.ProgramView.{program_of}
use Rattle.sf_core.specs.Program.View.{command_of}
use Rattle.sf_machine.specs.Configs.{config_of}
use Rattle.sf_machine.specs.Events.{event_of}
use Rattle.sf_frame.specs.Frames.{fixed_of}
use Rattle.sf_machine.proofs.Enabling.{in_order, there_is}
use Rattle.std.proofs.lemmas.Result.{IfOk-weaker}
use Rattle.sf_machine.proofs.Ready.{ready}
use Rattle.sf_machine.proofs.Steps.{going_next, idle_rests, none_answers, plan_does, plan_joins, plan_leaves, plan_returns, plan_stale}
use Rattle.sf_machine.proofs.stepping.plan.Goals as goal

pub returns-in-Nothing : goal.returns-in-Nothing
returns-in-Nothing c = none_answers (program_of c.args.p.now) (event_of c.args.e.now) (config_of c.args.c.now)
    (λ task en. idle_rests (config_of c.args.c.now) c.args.e.now.task _ task c.len.result c.len.ensures.count
    c.in-Nothing.ensures
    (there_is _ _ c.args.e.now.task c.turns.result.now _ c.in-Some.ensures c.turns.ensures refl) en)

pub returns-then-contains : goal.returns-then-contains
returns-then-contains c = plan_stale (program_of c.args.p.now) (event_of c.args.e.now) (config_of c.args.c.now) _
    (going_next (config_of c.args.c.now) c.args.e.now.task _ c.len.result c.next_of-next.result
    c.len.ensures.count
    (there_is _ _ c.args.e.now.task c.turns.result.now _ c.in-Some.ensures c.turns.ensures refl)
    c.next_of-next.ensures c.in_default-next.not-Nothing) (sym c.contains.ensures ∙ c.if-contains.true)

pub plan_command-requires : goal.plan_command-requires
plan_command-requires c =
    subst (λ (n : ℕ). IsReady (program_of c.args.p.now) n (config_of c.args.c.now).common
    (fixed_of c.in-Does.frame.now) (command_of c.in-Does.command.now)) (sym c.stamp.ensures.number)
    (ready (program_of c.args.p.now) c.requires.starts.procedure (config_of c.args.c.now)
    (event_of c.args.e.now) (fixed_of c.in-Does.frame.now) c.in-Does.ensures.0 (command_of c.in-Does.command.now)
    c.in-Does.ensures.1
    (in_order (program_of c.args.p.now) (config_of c.args.c.now) c.args.p.now.formed c.requires)
    (sym c.contains.ensures ∙ c.if-contains.false)
    (there_is _ _ c.args.e.now.task c.turns.result.now _ c.in-Some.ensures c.turns.ensures c.in-Does.ensures.2))

pub returns-in_ok-plan-in-Does : goal.returns-in_ok-plan-in-Does
returns-in_ok-plan-in-Does c = IfOk-weaker c.of_stack.result _ _ (λ plan same.
    plan_does (program_of c.args.p.now) (event_of c.args.e.now) (config_of c.args.c.now)
    (fixed_of c.in-Does.frame.now) c.in-Does.ensures.0 (command_of c.in-Does.command.now) c.in-Does.ensures.1
    c.in_ok-plan-in-Does.plan plan
    (sym c.contains.ensures ∙ c.if-contains.false)
    (there_is _ _ c.args.e.now.task c.turns.result.now _ c.in-Some.ensures c.turns.ensures c.in-Does.ensures.2)
    (subst (λ (ev : Event). Plans (program_of c.args.p.now) ev (config_of c.args.c.now).common
    (fixed_of c.in-Does.frame.now) (command_of c.in-Does.command.now) c.in_ok-plan-in-Does.plan)
    c.stamp.ensures.event (c.in_ok-plan-in-Does.ensures.plans (cell_of c.args.e.now.fields)))
    same) c.of_stack.ensures

pub returns-in-Leaves : goal.returns-in-Leaves
returns-in-Leaves c = plan_leaves (program_of c.args.p.now) c.requires.starts.procedure (event_of c.args.e.now)
    (config_of c.args.c.now) c.in-Leaves.ensures.0 c.in-Leaves.ensures.1 c.in-Leaves.r c.in-Leaves.ensures.2
    (in_order (program_of c.args.p.now) (config_of c.args.c.now) c.args.p.now.formed c.requires)
    (sym c.contains.ensures ∙ c.if-contains.false)
    (there_is _ _ c.args.e.now.task c.turns.result.now _ c.in-Some.ensures c.turns.ensures c.in-Leaves.ensures.3)

pub returns-in-Returns : goal.returns-in-Returns
returns-in-Returns c = plan_returns (program_of c.args.p.now) (event_of c.args.e.now) (config_of c.args.c.now)
    c.in-Returns.ensures.0 c.in-Returns.ensures.1 c.in-Returns.g c.in-Returns.room c.is_init-all.result c.len.result
    (sym c.contains.ensures ∙ c.if-contains.false)
    (there_is _ _ c.args.e.now.task c.turns.result.now _ c.in-Some.ensures c.turns.ensures c.in-Returns.ensures.2)
    c.in-Returns.ensures.3 c.len.ensures.count c.in-Returns.ensures.4 c.in-Returns.ensures.5 c.is_init-all.ensures

pub returns-in-Joins : goal.returns-in-Joins
returns-in-Joins c = plan_joins (program_of c.args.p.now) (event_of c.args.e.now) (config_of c.args.c.now)
    c.in-Joins.ensures.0 c.in-Joins.ensures.1 c.in-Joins.ensures.2 (sym c.contains.ensures ∙ c.if-contains.false)
    (there_is _ _ c.args.e.now.task c.turns.result.now _ c.in-Some.ensures c.turns.ensures c.in-Joins.ensures.3)
    c.in-Joins.ensures.4 c.in-Joins.ensures.5
