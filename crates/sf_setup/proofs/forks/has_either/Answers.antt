use Rattle.sf_core.specs.Machine.Whole.{numbers}
use Rattle.sf_part.specs.PartView.{part_of}
use Rattle.sf_setup.proofs.Units.{either-first}
use Rattle.sf_setup.proofs.forks.has_either.Goals as goal

pub returns-then-has_unit : goal.returns-then-has_unit
returns-then-has_unit c =
    either-first (numbers (part_of c.args.left.now).part.supply)
    (numbers (part_of c.args.right.now).part.supply) (c.has_unit.ensures.0 c.if-has_unit.true)
