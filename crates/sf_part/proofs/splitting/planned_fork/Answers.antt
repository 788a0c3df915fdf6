use Rattle.std.proofs.Common.{◌≡◌, ◌∷◌, ap, ◌∙◌, drop, subst, sym}
use Rattle.std.specs.Prelude.{ℕ}
use Rattle.sf_core.specs.Machine.Whole.{running, numbers}
use Rattle.sf_core.specs.Program.ProgramView.{program_of}
use Rattle.sf_core.specs.Program.View.{command_of}
use Rattle.sf_frame.specs.Frames.{fixed_of}
use Rattle.sf_heap.specs.Cells.{cell_of}
use Rattle.sf_part.specs.Checked.Splitting.{IsForked}
use Rattle.sf_part.specs.declared.splitting.Forked.{Forked}
use Rattle.sf_part.proofs.ForkPlan.{plan-forked, plan-ready, plan-turns, plan-waits}
use Rattle.sf_part.proofs.splitting.planned_fork.Goals as goal

pub plan_command-requires : goal.plan_command-requires
plan_command-requires c =
    plan-ready (program_of c.args.p.now) c.args.part.now c.next-number.result
    (fixed_of c.args.frame.now) c.requires.next.2.0 (command_of c.args.command.now)
    c.requires.next.2.1 c.requires.fork.0 c.requires.fork.1 c.requires.fork.2 c.requires.fork.3
    (c.requires.next.1 ∙ ap running c.requires.next.2.2) c.args.p.now.formed c.requires.of
    c.args.part.now.kept c.next-number.ensures

pub unreachable-requires : goal.unreachable-requires
unreachable-requires c =
    let planned = rw c.in-Acts.is at
    (c.in_ok-left.ensures.plans (cell_of c.args.part.now.blank) c.requires.next.2.0
    c.requires.next.2.1) in
    plan-waits (program_of c.args.p.now) c.args.part.now c.next-number.result
    (fixed_of c.args.frame.now) c.requires.next.2.0 (command_of c.args.command.now)
    c.requires.next.2.1 c.requires.fork.0 c.requires.fork.1 c.requires.fork.2 c.requires.fork.3
    (c.requires.next.1 ∙ ap running c.requires.next.2.2) c.in-Acts.field-0 c.in-Acts.field-1
    planned

pub unreachable-requires-in-Refused : goal.unreachable-requires-in-Refused
unreachable-requires-in-Refused c =
    let planned = rw c.in-Refused.is at
    (c.in_ok-left.ensures.plans (cell_of c.args.part.now.blank) c.requires.next.2.0
    c.requires.next.2.1) in
    plan-turns (program_of c.args.p.now) c.args.part.now c.next-number.result
    (fixed_of c.args.frame.now) c.requires.next.2.0 (command_of c.args.command.now)
    c.requires.next.2.1 c.requires.fork.0 c.requires.fork.1 c.requires.fork.2 c.requires.fork.3
    (c.requires.next.1 ∙ ap running c.requires.next.2.2) c.requires.turns c.in-Refused.field-0
    planned

pub returns : goal.returns
returns c = λ number units.
    let p = program_of c.args.p.now in
    let planned = rw c.in-Forks.is at
    (c.in_ok-left.ensures.plans (cell_of c.args.part.now.blank) c.requires.next.2.0
    c.requires.next.2.1) in
    let both : number ∷ drop 1 (numbers c.args.part.now.supply)
    ≡ c.next-number.result ∷ drop 1 (numbers c.args.part.now.supply) =
    sym units ∙ c.next-number.ensures in
    let same : c.next-number.result ≡ number = cc in
    let named = c.callees_of.ensures c.requires.fork.0 c.requires.fork.1 c.requires.fork.2
    c.requires.fork.3 in
    let x : Forked = record {
      callees = c.callees_of.result;
      left = c.in-Forks.left;
      right = c.in-Forks.right;
    } in
    subst (λ (n : ℕ). IsForked p c.args.part.now n x) same
    (plan-forked p c.args.part.now c.next-number.result (fixed_of c.args.frame.now)
    c.requires.next.2.0 (command_of c.args.command.now) c.requires.next.2.1 c.requires.fork.0
    c.requires.fork.1 c.requires.fork.2 c.requires.fork.3
    (c.requires.next.1 ∙ ap running c.requires.next.2.2) x named.0 named.1 planned)
