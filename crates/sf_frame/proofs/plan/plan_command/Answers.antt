use Rattle.std.proofs.Common.{ℕ, ◌<◌, List, inl, inr, length, map, sym, subst, arith}
use Rattle.std.proofs.lemmas.List.{length-map}
use Rattle.sf_core.specs.declared.program.Proc.{Proc}
use Rattle.sf_core.specs.Program.View.{command_of, procedure_of}
use Rattle.sf_base.specs.declared.value.Value.TheVariants.{Nil as nil}
use Rattle.sf_base.specs.HeapStore.{Cell}
use Rattle.sf_core.specs.Program.ProgramView.{program_of}
use Rattle.sf_core.specs.Program.Syntax.{Command}
use Rattle.sf_frame.specs.Checked.Plans.{CallsSome, HasCallees, Plans, TakesRoom}
use Rattle.sf_frame.specs.Commons.{common_of}
use Rattle.sf_frame.specs.Frames.{fixed_of}
use Rattle.sf_frame.specs.Stamps.{event_of}
use Rattle.std.proofs.lemmas.Result.{IfOk-weaker}
use Rattle.sf_frame.proofs.Plans.{ok_fits, on_err}
use Rattle.sf_frame.proofs.plan.plan_command.Goals as goal

-- a procedure that the definitions have is there in the code
callee_there : (xs : List Proc) (k : ℕ) → k < length (map procedure_of xs) → k < length xs
callee_there xs k l = omega (arith, l, length-map xs procedure_of)

-- some cell, where none is made
any_cell : Cell
any_cell = λ field. nil

pub returns-in-Edits-clause-plans : goal.returns-in-Edits-clause-plans
returns-in-Edits-clause-plans c = λ cell. c.in-Edits.ensures.acts (program_of c.args.p.now) c.requires.field cell

pub returns-in-Makes-clause-plans : goal.returns-in-Makes-clause-plans
returns-in-Makes-clause-plans c = λ cell. c.in-Makes.ensures.acts (program_of c.args.p.now) c.requires.field cell

pub returns-in-Enters-clause-plans : goal.returns-in-Enters-clause-plans
returns-in-Enters-clause-plans c = λ cell. c.in-Enters.ensures.acts (program_of c.args.p.now) c.requires.field cell

pub returns-in-Refused-clause-plans : goal.returns-in-Refused-clause-plans
returns-in-Refused-clause-plans c = λ cell. c.in-Refused.ensures.acts (program_of c.args.p.now) c.requires.field cell

pub plan_call-requires : goal.plan_call-requires
plan_call-requires c =
    let k = c.in-Calls.ensures.acts (program_of c.args.p.now) c.requires.field any_cell in
    record {
      callee = callee_there c.args.p.now.procedures.items _
          (subst (HasCallees (program_of c.args.p.now)) k.1 c.requires.callees);
      fresh = c.requires.fresh;
    }

pub returns-in-Calls-clause-plans : goal.returns-in-Calls-clause-plans
returns-in-Calls-clause-plans c =
    let k = c.in-Calls.ensures.acts (program_of c.args.p.now) c.requires.field any_cell in
    IfOk-weaker c.plan_call.result _ _ (λ plan plans cell.
    subst (λ (one : Command). Plans (program_of c.args.p.now) (event_of c.args.event.now cell)
    (common_of c.args.shared.now) (fixed_of c.args.frame.now) one plan) (sym k.1) (plans cell k.0)) c.plan_call.ensures

pub returns-in-Calls-clause-memory : goal.returns-in-Calls-clause-memory
returns-in-Calls-clause-memory c =
    let k = c.in-Calls.ensures.acts (program_of c.args.p.now) c.requires.field any_cell in
    on_err c.plan_call.result (subst CallsSome (sym k.1) tt)

pub plan_fork-requires : goal.plan_fork-requires
plan_fork-requires c =
    let k = c.in-Forks.ensures.acts (program_of c.args.p.now) c.requires.field any_cell in
    let both = subst (HasCallees (program_of c.args.p.now)) k.1 c.requires.callees in
    record {
      left = callee_there c.args.p.now.procedures.items _ both.0;
      right = callee_there c.args.p.now.procedures.items _ both.1;
      fresh = c.requires.fresh;
    }

pub returns-in-Forks-clause-plans : goal.returns-in-Forks-clause-plans
returns-in-Forks-clause-plans c =
    let k = c.in-Forks.ensures.acts (program_of c.args.p.now) c.requires.field any_cell in
    IfOk-weaker c.plan_fork.result _ _ (λ plan plans cell.
    subst (λ (one : Command). Plans (program_of c.args.p.now) (event_of c.args.event.now cell)
    (common_of c.args.shared.now) (fixed_of c.args.frame.now) one plan) (sym k.1) (plans cell k.0)) c.plan_fork.ensures

pub returns-in-Forks-clause-memory : goal.returns-in-Forks-clause-memory
returns-in-Forks-clause-memory c =
    let k = c.in-Forks.ensures.acts (program_of c.args.p.now) c.requires.field any_cell in
    on_err c.plan_fork.result (subst CallsSome (sym k.1) tt)

pub returns-in-Edits-clause-room : goal.returns-in-Edits-clause-room
returns-in-Edits-clause-room c = λ h. elim h [
  | inl more ↦ absurd more
  | inr more ↦ absurd more
]

pub returns-in-Makes-clause-room : goal.returns-in-Makes-clause-room
returns-in-Makes-clause-room c = λ h. c.in-Makes.ensures.room

pub returns-in-Enters-clause-room : goal.returns-in-Enters-clause-room
returns-in-Enters-clause-room c = λ h. c.in-Enters.ensures.room

pub returns-in-Calls-clause-room : goal.returns-in-Calls-clause-room
returns-in-Calls-clause-room c =
    let k = c.in-Calls.ensures.acts (program_of c.args.p.now) c.requires.field any_cell in
    ok_fits (command_of c.args.command.now) c.plan_call.result (subst TakesRoom (sym k.1) tt)

pub returns-in-Forks-clause-room : goal.returns-in-Forks-clause-room
returns-in-Forks-clause-room c =
    let k = c.in-Forks.ensures.acts (program_of c.args.p.now) c.requires.field any_cell in
    ok_fits (command_of c.args.command.now) c.plan_fork.result (subst TakesRoom (sym k.1) tt)
