use Rattle.sf_base.specs.HeapStore.{own}
use Rattle.sf_frame.specs.Checked.Endings.{AreValues}
use Rattle.sf_frame.specs.Stores.{store_of}
use Rattle.sf_frame.proofs.ending.own_values.Given as goal

-- so many are there
abbrev pub invariant-loop-i : goal.invariant-loop-i
invariant-loop-i l = AreValues (store_of l.store) (λ k. own 0 k) l.i l.values.items
