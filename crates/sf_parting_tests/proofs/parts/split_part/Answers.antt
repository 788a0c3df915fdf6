use Rattle.sf_core.specs.Program.ProgramView.{program_of}
use Rattle.sf_parting_tests.proofs.parts.split_part.Goals as goal

pub split-requires-clause-of : goal.split-requires-clause-of
split-requires-clause-of c =
    c.make_room.ensures.of (program_of c.args.p.now.program) c.own_steps.ensures.of

pub returns-in_err-make_room-clause-of : goal.returns-in_err-make_room-clause-of
returns-in_err-make_room-clause-of c =
    c.make_room.ensures.of (program_of c.args.p.now.program) c.own_steps.ensures.of
