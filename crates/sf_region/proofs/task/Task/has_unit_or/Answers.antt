use Rattle.sf_core.specs.Machine.Whole.{numbers}
use Rattle.sf_part.specs.PartView.{part_of}
use Rattle.sf_region.proofs.Units.{no-unit, unit-left, unit-right}
use Rattle.sf_region.proofs.task.Task.has_unit_or.Goals as goal

pub returns-then-has_unit : goal.returns-then-has_unit
returns-then-has_unit c = unit-left (numbers (part_of c.args.self.now.1).part.supply)
    (numbers (part_of c.args.other.now.1).part.supply) (c.has_unit.ensures.0 (cc))

pub returns : goal.returns
returns c = unit-right (numbers (part_of c.args.self.now.1).part.supply)
    (numbers (part_of c.args.other.now.1).part.supply) c.has_unit-2.result
    (no-unit (numbers (part_of c.args.self.now.1).part.supply) c.has_unit.result
    c.has_unit.ensures (cc)) c.has_unit-2.ensures
