use Rattle.std.proofs.Common.{◌≡◌, None}
use Rattle.std.specs.Map.{lookup}
use Rattle.std.specs.Option.{option_or}
use Rattle.std.specs.BTreeMap.{is_at}
use Rattle.sf_base.specs.HeapStore.{Slot}
use Rattle.sf_frame.specs.Spots.{spot_of, spots}
use Rattle.sf_frame.specs.Stores.{store_of}
use Rattle.sf_frame.proofs.store.Store.take_over.Given as goal

-- what the slots have that aren't among the others, and those that the other store lacks
abbrev pub invariant-loop-spot : goal.invariant-loop-spot
invariant-loop-spot l = record {
  done : (slot : Slot) → lookup (is_at (spots (spot_of slot))) l.spot-iterator ≡ None
      → store_of l.self slot ≡ option_or (store_of l.other slot) (store_of l.initial.self slot);
  others : (slot : Slot) → store_of l.other slot ≡ None
      → store_of l.self slot ≡ store_of l.initial.self slot;
}
