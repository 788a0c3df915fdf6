use Rattle.sf_core.specs.Machine.Whole.{numbers}
use Rattle.sf_core.specs.Program.ProgramView.{program_of}
use Rattle.sf_part.specs.PartView.{part_of}
use Rattle.sf_region.proofs.Units.{no-unit}
use Rattle.sf_threads.proofs.Moves.{going-region}
use Rattle.sf_threads.proofs.Trying.{tries-none, trying-at}
use Rattle.sf_threads.proofs.tries.enter.Goals as goal

pub spent-requires-clause-going : goal.spent-requires-clause-going
spent-requires-clause-going g c κs within =
    going-region c.run_laws.ensures (program_of c.args.crew.now.program.now.program)
    c.requires.accepted c.args.crew.now.regions.now c.args.task c.args.r c.requires.region

pub spent-requires-clause-none : goal.spent-requires-clause-none
spent-requires-clause-none g c κs within =
    no-unit (numbers (part_of c.args.task.1).part.supply) c.has_unit.result c.has_unit.ensures (cc)

pub loop-count-init : goal.loop-count-init
loop-count-init g c =
    tries-none (program_of c.args.crew.now.program.now.program) c.args.crew.now.regions.now
    c.args.r c.args.task c.requires.running

pub attempt-requires-clause-trying : goal.attempt-requires-clause-trying
attempt-requires-clause-trying g c κs within =
    trying-at (program_of c.args.crew.now.program.now.program) c.args.crew.now.regions.now
    c.args.r c.args.task c.requires.running c.loop-count.trying c.loop-count.count
    c.loop-count.invariant c.requires.region (c.has_unit.ensures.0 (cc))
