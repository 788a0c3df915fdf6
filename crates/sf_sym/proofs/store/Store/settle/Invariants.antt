use Rattle.std.proofs.Common.{◌≡◌}
use Rattle.sf_sym.specs.Checked.Stores.{Kept, heap}
use Rattle.sf_sym.proofs.store.Store.settle.Given as goal

abbrev pub invariant-loop-i : goal.invariant-loop-i
invariant-loop-i l = record { kept : Kept l.self; same : heap l.self ≡ heap l.initial.self }

abbrev pub decreases-loop-i : goal.decreases-loop-i
decreases-loop-i l = l.i
