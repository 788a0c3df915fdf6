use Rattle.std.proofs.Common.{◌≡◌, cond, Some}
use Rattle.sf_base.specs.HeapStore.{Slot}
use Rattle.sf_foot.specs.Variables.{value_of}
use Rattle.sf_frame.specs.Checked.Resources.{in_resource, var_at}
use Rattle.sf_frame.specs.Stores.{store_of}
use Rattle.sf_frame.proofs.resources.add_resource.Given as goal

-- so many have come up
abbrev pub invariant-loop-i : goal.invariant-loop-i
invariant-loop-i l = (slot : Slot) → store_of l.store slot ≡ cond (in_resource l.r l.i slot)
    (Some (value_of l.vars (var_at slot))) (store_of l.initial.store slot)
