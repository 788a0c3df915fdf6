use Rattle.sf_core.specs.Program.ProgramView.{program_of}
use Rattle.sf_part.specs.Checked.Stepping.{own_event}
use Rattle.sf_part.proofs.Made.{made-next, made-of, made-private, made-runs}
use Rattle.sf_part.proofs.part.Part.step_local.Goals as goal

pub perform-requires-clause-runs : goal.perform-requires-clause-runs
perform-requires-clause-runs c =
    let plan = rw c.in-Acts.is at c.in_ok-answer.ensures.plans in
    made-runs (program_of c.args.p.now) c.args.self.now.stand plan.0 plan.1 plan.2.1.private

pub perform-requires-clause-next : goal.perform-requires-clause-next
perform-requires-clause-next c =
    let plan = rw c.in-Acts.is at c.in_ok-answer.ensures.plans in
    made-next (program_of c.args.p.now) c.args.self.now c.args.self.now c.in-Acts.number
    c.in-Acts.effect
    c.in-Acts.change plan.0 plan.1 plan.2.1

pub returns-in_ok-perform-in-Acts-clause-moved : goal.returns-in_ok-perform-in-Acts-clause-moved
returns-in_ok-perform-in-Acts-clause-moved c = λ moved.
    let plan = rw c.in-Acts.is at c.in_ok-answer.ensures.plans in (
      own_event c.args.self.now c.in-Acts.number,
      made-private (program_of c.args.p.now) c.args.self.now c.perform.new.self c.in-Acts.number
          c.in-Acts.effect c.in-Acts.change plan.0 plan.1 plan.2.1
          c.in_ok-perform-in-Acts.ensures.ok,
    )

pub returns-in_ok-perform-in-Acts-clause-of : goal.returns-in_ok-perform-in-Acts-clause-of
returns-in_ok-perform-in-Acts-clause-of c =
    let plan = rw c.in-Acts.is at c.in_ok-answer.ensures.plans in
    made-of (program_of c.args.p.now) c.args.self.now c.perform.new.self c.in-Acts.number
    c.in-Acts.effect c.in-Acts.change plan.0 plan.1 plan.2.1 c.in_ok-perform-in-Acts.ensures.ok
    c.requires.of
    c.in_ok-perform-in-Acts.ensures.width
