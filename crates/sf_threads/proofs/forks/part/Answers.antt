use Rattle.std.proofs.Common.{subst}
use Rattle.sf_core.specs.Machine.Whole.{numbers}
use Rattle.sf_core.specs.Program.ProgramView.{program_of}
use Rattle.sf_part.specs.PartView.{IsPartOf, part_of}
use Rattle.sf_region.proofs.Units.{no-unit}
use Rattle.sf_threads.proofs.Moves.{going-fork, program-at}
use Rattle.sf_threads.proofs.Parted.{fork-parted, fork-shares}
use Rattle.sf_threads.proofs.forks.part.Goals as goal

pub spent-requires-clause-going : goal.spent-requires-clause-going
spent-requires-clause-going g c κs within =
    going-fork c.run_laws.ensures (program_of c.args.crew.now.program.now.program)
    c.requires.accepted c.args.crew.now.regions.now c.args.task c.requires.at

pub spent-requires-clause-none : goal.spent-requires-clause-none
spent-requires-clause-none g c κs within =
    no-unit (numbers (part_of c.args.task.1).part.supply) c.has_unit.result c.has_unit.ensures (cc)

pub unreachable-requires : goal.unreachable-requires
unreachable-requires g c =
    let p = program_of c.args.crew.now.program.now.program in
    let t = c.args.crew.now.regions.now in
    fork-shares c.run_laws.ensures p c.requires.accepted t c.args.task c.requires.running
    (subst (λ z. IsPartOf z c.args.task.1) (program-at p t c.args.task c.requires.running)
    c.path-path.ensures.of) c.requires.at (c.has_unit.ensures.0 (cc)) (c.fork.ensures.none (cc))

pub returns-in-Ok-clause-parted : goal.returns-in-Ok-clause-parted
returns-in-Ok-clause-parted g c =
    let p = program_of c.args.crew.now.program.now.program in
    let t = c.args.crew.now.regions.now in
    let e = c.in-Ok.ensures in
    fork-parted c.run_laws.ensures p c.requires.accepted t c.args.task c.requires.running
    (subst (λ z. IsPartOf z c.args.task.1) (program-at p t c.args.task c.requires.running)
    c.path-path.ensures.of) e.lends.0 c.in-Ok.waits c.in-Ok.left c.in-Ok.right e.lends.1 e.gone
    e.tables e.begun e.rests e.fresh
