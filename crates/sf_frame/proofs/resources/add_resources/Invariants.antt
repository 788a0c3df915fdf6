use Rattle.std.proofs.Common.{◌≡◌, cond, Some}
use Rattle.sf_base.specs.HeapStore.{Slot}
use Rattle.sf_foot.specs.Variables.{value_of}
use Rattle.sf_frame.specs.Checked.Resources.{counts_of, in_resources, var_at}
use Rattle.sf_frame.specs.Stores.{store_of}
use Rattle.sf_frame.proofs.resources.add_resources.Given as goal

-- those of so many resources have come up
abbrev pub invariant-loop-r : goal.invariant-loop-r
invariant-loop-r l = (slot : Slot) → store_of l.store slot
    ≡ cond (in_resources (counts_of l.p.resources.items) l.r slot)
    (Some (value_of l.vars (var_at slot))) (store_of l.initial.store slot)
