use Rattle.std.proofs.Common.{◌≡◌, cond, is_some, None}
use Rattle.std.specs.Map.{lookup}
use Rattle.std.specs.BTreeMap.{is_at}
use Rattle.sf_base.specs.HeapStore.{Slot}
use Rattle.sf_frame.specs.Spots.{spot_of, spots}
use Rattle.sf_frame.specs.Stores.{store_of}
use Rattle.sf_frame.proofs.store.Store.clear.Given as goal

-- what is left once the others vanish too
abbrev pub invariant-loop-spot : goal.invariant-loop-spot
invariant-loop-spot l = (slot : Slot)
    → cond (is_some (lookup (is_at (spots (spot_of slot))) l.spot-iterator)) None
    (store_of l.self slot)
    ≡ cond (is_some (store_of l.other slot)) None (store_of l.initial.self slot)
