use Rattle.sf_machine.specs.Checked.Endings.{AreRows}
use Rattle.sf_frame.specs.Checked.Resources.{counts_of}
use Rattle.sf_frame.specs.Stores.{store_of}
use Rattle.sf_machine.proofs.finishing.values_of_resources.Given as goal

-- those of so many resources are there
abbrev pub invariant-loop-r : goal.invariant-loop-r
invariant-loop-r l = AreRows (store_of l.store) (counts_of l.p.resources.items) l.r l.rows.items
