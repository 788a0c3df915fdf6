use Rattle.sf_base.specs.HeapStore.{shared}
use Rattle.sf_frame.specs.Checked.Endings.{AreValues}
use Rattle.sf_frame.specs.Stores.{store_of}
use Rattle.sf_frame.proofs.ending.shared_values.Given as goal

-- so many are there
abbrev pub invariant-loop-i : goal.invariant-loop-i
invariant-loop-i l = AreValues (store_of l.store) (shared l.r) l.i l.values.items
