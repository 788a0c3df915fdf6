use Rattle.sf_core.specs.Program.ProgramView.{program_of}
use Rattle.sf_turns.proofs.parts.own_steps.Goals as goal

pub returns-in_err-make_room-clause-of : goal.returns-in_err-make_room-clause-of
returns-in_err-make_room-clause-of c =
    c.make_room.ensures.of (program_of c.args.p.now) c.loop-count.invariant.0

pub step_local-requires-clause-of : goal.step_local-requires-clause-of
step_local-requires-clause-of c =
    c.make_room.ensures.of (program_of c.args.p.now) c.loop-count.invariant.0
