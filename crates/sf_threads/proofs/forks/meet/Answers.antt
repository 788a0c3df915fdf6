use Rattle.std.proofs.Common.{◌++◌}
use Rattle.sf_core.specs.Machine.Whole.{numbers}
use Rattle.sf_core.specs.Program.ProgramView.{program_of}
use Rattle.sf_part.specs.PartView.{part_of}
use Rattle.sf_region.proofs.Units.{no-unit}
use Rattle.sf_threads.proofs.Parted.{meet-moved}
use Rattle.sf_threads.proofs.forks.meet.Goals as goal

pub spent_join-requires-clause-none : goal.spent_join-requires-clause-none
spent_join-requires-clause-none g c κs within =
    no-unit (numbers (part_of c.args.left.1).part.supply
    ++ numbers (part_of c.args.right.1).part.supply) c.has_unit_or.result c.has_unit_or.ensures (cc)

pub returns-in-Ok-clause-moved : goal.returns-in-Ok-clause-moved
returns-in-Ok-clause-moved g c =
    let e = c.in-Ok.ensures in
    λ k m. meet-moved (program_of c.args.crew.now.program.now.program)
    c.args.crew.now.regions.now k c.args.waits c.args.left c.args.right m c.run_laws.ensures
    c.requires.accepted c.in-Ok.joined e.joins.0 e.joins.1 (e.goes (part_of k.1) m.gone)
    e.table.0 e.table.1 e.fresh
