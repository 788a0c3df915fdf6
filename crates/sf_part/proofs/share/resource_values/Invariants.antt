use Rattle.std.proofs.Common.{◌≡◌, ◌<◌, ℕ, length, slice_index_or, unwrap_or}
use Rattle.sf_base.specs.declared.value.Value.TheVariants.{Nil as nil}
use Rattle.sf_base.specs.HeapStore.{shared}
use Rattle.sf_frame.specs.Stores.{store_of}
use Rattle.sf_part.proofs.share.resource_values.Given as goal

-- the values so far
abbrev pub invariant-loop-i : goal.invariant-loop-i
invariant-loop-i l = (length l.values.items ≡ l.i) × ((k : ℕ) → k < l.i
    → slice_index_or l.values.items k nil ≡ unwrap_or (store_of l.store (shared l.r k)) nil)
