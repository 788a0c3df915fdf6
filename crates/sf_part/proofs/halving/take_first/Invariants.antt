use Rattle.std.proofs.Common.{◌≡◌, ◌≤◌, ◌+◌, ◌++◌, length}
use Rattle.sf_core.specs.Machine.Whole.{numbers}
use Rattle.sf_part.specs.Checked.Halving.{in_list}
use Rattle.sf_part.specs.Checked.Ranges.{AreFit, ranges_of}
use Rattle.sf_part.proofs.halving.take_first.Given as goal

-- no unit is lost, and so many are still to be moved
abbrev pub invariant-loop-left : goal.invariant-loop-left
invariant-loop-left l = record {
  fit : AreFit l.ranges.items;
  first_fit : AreFit l.first.items;
  moved : numbers (in_list l.first.items) ++ numbers (ranges_of l.ranges.items)
      ≡ numbers (ranges_of l.fn.ranges.items);
  many : length (numbers (in_list l.first.items)) + l.left ≡ l.count;
  enough : l.count ≤ length (numbers (ranges_of l.fn.ranges.items));
}

abbrev pub decreases-loop-left : goal.decreases-loop-left
decreases-loop-left l = l.left
