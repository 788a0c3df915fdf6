use Rattle.std.proofs.Common.{ap, ◌∙◌, ◌∷◌, subst, sym}
use Rattle.sf_core.specs.Machine.Config.{command}
use Rattle.sf_core.specs.Machine.Whole.{running}
use Rattle.sf_core.specs.Program.ProgramView.{program_of}
use Rattle.sf_core.specs.Program.View.{command_of}
use Rattle.sf_frame.specs.Checked.Nexts.{frames_with}
use Rattle.sf_frame.specs.Frames.{fixed_of}
use Rattle.sf_heap.specs.Cells.{cell_of}
use Rattle.sf_part.specs.Checked.Stepping.{PlansOf}
use Rattle.sf_part.specs.declared.stepping.Plan.TheVariants.{Says}
use Rattle.sf_part.proofs.Planned.{own-absent, own-acts, own-missing, own-ready, own-runs, own-unable}
use Rattle.sf_part.proofs.stepping.plan_own.Goals as goal

pub plan_command-requires : goal.plan_command-requires
plan_command-requires c = own-ready (program_of c.args.p.now) c.args.p.now.formed c.args.part.now
    c.args.part.now.kept c.requires.of c.next-number.result c.next-number.ensures
    (fixed_of c.args.frame.now)
    c.requires.next.2.0 (command_of c.args.command.now) c.requires.next.2.1 c.in_default.ensures
    (c.requires.next.1 ∙ ap running c.requires.next.2.2)

pub missed-requires : goal.missed-requires
missed-requires c =
    let planned = rw c.in-Refused.is at
    (c.in_ok-effect.ensures.plans (cell_of c.args.part.now.blank) c.requires.next.2.0
    c.requires.next.2.1) in
    let m = own-missing (program_of c.args.p.now) c.args.p.now.formed c.args.part.now
    c.args.part.now.kept c.requires.of c.next-number.result c.next-number.ensures
    (fixed_of c.args.frame.now)
    c.requires.next.2.0 (command_of c.args.command.now) c.requires.next.2.1 c.in_default.ensures
    (c.requires.next.1 ∙ ap running c.requires.next.2.2) c.in-Refused.why planned in (m.root, m.is)

pub unreachable-requires : goal.unreachable-requires
unreachable-requires c =
    let planned = rw c.in-Forks.is at
    (c.in_ok-effect.ensures.plans (cell_of c.args.part.now.blank) c.requires.next.2.0
    c.requires.next.2.1) in
    own-runs (program_of c.args.p.now) c.args.p.now.formed c.args.part.now
    c.args.part.now.kept c.requires.of c.next-number.result c.next-number.ensures
    (fixed_of c.args.frame.now)
    c.requires.next.2.0 (command_of c.args.command.now) c.requires.next.2.1 c.in_default.ensures
    (c.requires.next.1 ∙ ap running c.requires.next.2.2) c.in-Forks.field-0 c.in-Forks.field-1
    planned

pub returns-then-is_empty-clause-plans : goal.returns-then-is_empty-clause-plans
returns-then-is_empty-clause-plans c = (
  frames_with (fixed_of c.args.frame.now) (command (command_of c.args.command.now)
      ∷ c.requires.next.2.1)
      c.requires.next.2.0,
  c.requires.next.1 ∙ ap running c.requires.next.2.2,
  own-unable (program_of c.args.p.now) c.args.part.now (fixed_of c.args.frame.now)
      c.requires.next.2.0 (command_of c.args.command.now) c.requires.next.2.1 c.in_default.ensures
      (c.is_empty.ensures.0 c.if-is_empty.true),
)

pub returns-in-Acts-clause-plans : goal.returns-in-Acts-clause-plans
returns-in-Acts-clause-plans c =
    let planned = rw c.in-Acts.is at
    (c.in_ok-effect.ensures.plans (cell_of c.args.part.now.blank) c.requires.next.2.0
    c.requires.next.2.1) in (
      frames_with (fixed_of c.args.frame.now) (command (command_of c.args.command.now)
          ∷ c.requires.next.2.1)
          c.requires.next.2.0,
      c.requires.next.1 ∙ ap running c.requires.next.2.2,
      own-acts (program_of c.args.p.now) c.args.p.now.formed c.args.part.now
          c.args.part.now.kept c.requires.of c.next-number.result c.next-number.ensures
          (fixed_of c.args.frame.now) c.requires.next.2.0 (command_of c.args.command.now)
          c.requires.next.2.1
          c.in_default.ensures (c.requires.next.1 ∙ ap running c.requires.next.2.2) c.in-Acts.effect
          c.in-Acts.change planned (rw c.in-Acts.is at c.in_ok-effect.ensures.room),
    )

pub returns-in-Refused-clause-plans : goal.returns-in-Refused-clause-plans
returns-in-Refused-clause-plans c =
    let frames = frames_with (fixed_of c.args.frame.now)
    (command (command_of c.args.command.now) ∷ c.requires.next.2.1) c.requires.next.2.0 in
    let planned = rw c.in-Refused.is at
    (c.in_ok-effect.ensures.plans (cell_of c.args.part.now.blank) c.requires.next.2.0
    c.requires.next.2.1) in
    let m = own-missing (program_of c.args.p.now) c.args.p.now.formed c.args.part.now
    c.args.part.now.kept c.requires.of c.next-number.result c.next-number.ensures
    (fixed_of c.args.frame.now)
    c.requires.next.2.0 (command_of c.args.command.now) c.requires.next.2.1 c.in_default.ensures
    (c.requires.next.1 ∙ ap running c.requires.next.2.2) c.in-Refused.why planned in (
      frames,
      c.requires.next.1 ∙ ap running c.requires.next.2.2,
      subst (λ z. PlansOf (program_of c.args.p.now) c.args.part.now frames (Says z))
          (sym (c.missed.ensures m.root m.is))
          (own-absent (program_of c.args.p.now) c.args.p.now.formed c.args.part.now
          c.args.part.now.kept c.requires.of c.next-number.result c.next-number.ensures
          (fixed_of c.args.frame.now) c.requires.next.2.0 (command_of c.args.command.now)
          c.requires.next.2.1
          c.in_default.ensures (c.requires.next.1 ∙ ap running c.requires.next.2.2) c.in-Refused.why
          m),
    )
