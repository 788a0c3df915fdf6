use Rattle.std.proofs.Common.{refl, sym, subst}
use Rattle.sf_core.specs.Machine.Config.{Config}
use Rattle.sf_core.specs.Machine.Step.{Step}
use Rattle.sf_core.specs.Program.ProgramView.{program_of}
use Rattle.sf_machine.specs.Configs.{config_of}
use Rattle.sf_machine.specs.Events.{event_of}
use Rattle.sf_machine.specs.Checked.Performing.{performed}
use Rattle.sf_machine.proofs.Reaching.{reached_step}
use Rattle.sf_machine.proofs.Steps.{planned_steps}
use Rattle.sf_machine.proofs.stepping.step.Goals as goal

pub returns-in_ok-perform-in-Acts-clause-answers : goal.returns-in_ok-perform-in-Acts-clause-answers
returns-in_ok-perform-in-Acts-clause-answers c =
    let planned = rw c.in-Acts.is at c.in_ok-why.ensures in (
      performed (event_of c.args.e.now) c.in-Acts.effect c.in-Acts.change (config_of c.args.c.now),
      planned_steps (program_of c.args.p.now) (event_of c.args.e.now) (config_of c.args.c.now) c.in-Acts.effect
          c.in-Acts.change planned,
    )

pub returns-in_ok-perform-in-Acts-clause-moved : goal.returns-in_ok-perform-in-Acts-clause-moved
returns-in_ok-perform-in-Acts-clause-moved c =
    let planned = rw c.in-Acts.is at c.in_ok-why.ensures in
    λ moved. subst
    (λ (d : Config). Step (program_of c.args.p.now) (event_of c.args.e.now) (config_of c.args.c.now) d)
    (sym c.in_ok-perform-in-Acts.ensures.ok)
    (planned_steps (program_of c.args.p.now) (event_of c.args.e.now) (config_of c.args.c.now) c.in-Acts.effect
    c.in-Acts.change planned)

pub returns-in_ok-perform-in-Acts-clause-reached : goal.returns-in_ok-perform-in-Acts-clause-reached
returns-in_ok-perform-in-Acts-clause-reached c = reached_step (program_of c.args.p.now) (event_of c.args.e.now)
    (config_of c.args.c.now) _ c.requires.reached (returns-in_ok-perform-in-Acts-clause-moved c refl)
