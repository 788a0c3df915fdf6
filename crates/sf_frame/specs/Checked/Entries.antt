-- The slots that the entry's references name.
-- Ordinary: a list by its places.
use Rattle.std.specs.Prelude.{◌≡◌, ℕ, ◌<◌, List, length, slice_get, Some}
use Rattle.sf_frame.specs.declared.spot.Spot.{Spot}
use Rattle.sf_frame.specs.declared.spot.Spot.TheVariants.{Own}

-- there are so many, each the slot of its own place
pub record AreEntrySpots (count : ℕ) (spots : List Spot) : Type 0 where
  pub length : length spots ≡ count
  pub at : (k : ℕ) → k < count → slice_get spots k ≡ Some (Own 0 k)
