use Rattle.sf_core.specs.Machine.Whole.{numbers}
use Rattle.sf_core.specs.Program.ProgramView.{program_of}
use Rattle.sf_part.specs.PartView.{part_of}
use Rattle.sf_region.proofs.Units.{no-unit}
use Rattle.sf_threads.proofs.Moves.{going-exit, moved-left, no-lack}
use Rattle.sf_threads.proofs.tasks.leave.Goals as goal

pub spent-requires-clause-going : goal.spent-requires-clause-going
spent-requires-clause-going g c κs within =
    going-exit c.run_laws.ensures (program_of c.args.crew.now.program.now.program)
    c.requires.accepted c.args.crew.now.regions.now c.args.task c.args.r c.requires.exit

pub spent-requires-clause-none : goal.spent-requires-clause-none
spent-requires-clause-none g c κs within =
    no-unit (numbers (part_of c.args.task.1).part.supply) c.has_unit.result c.has_unit.ensures (cc)

pub returns-in-Ok-clause-moved : goal.returns-in-Ok-clause-moved
returns-in-Ok-clause-moved g c =
    let p = program_of c.args.crew.now.program.now.program in
    let e = c.in-Ok.ensures in
    moved-left c.run_laws.ensures p c.requires.accepted c.args.crew.now.regions.now c.args.task
    c.leave_region.new.self c.requires.running e.left e.goes e.seat.0 e.seat.1 e.fresh

pub unreachable-requires : goal.unreachable-requires
unreachable-requires g c =
    let p = program_of c.args.crew.now.program.now.program in
    no-lack c.run_laws.ensures p c.requires.accepted c.args.crew.now.regions.now c.args.task
    c.args.r c.requires.running c.requires.exit (c.leave_region.ensures.none (cc))
