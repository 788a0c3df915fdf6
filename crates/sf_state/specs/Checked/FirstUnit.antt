-- How the first unit is found: a number that is raised above each location in turn.
-- Ordinary: the maximum of a set, by its elements in any order.
use Rattle.std.specs.Prelude.{◌≡◌, ◌⊎◌, ℕ, ◌+◌, ◌<◌, ◌≤◌, ◌^◌, Some, List, Contains}
use Rattle.std.specs.FinMap.{get}
use Rattle.sf_base.specs.declared.value.Value.{Value}
use Rattle.sf_base.specs.declared.value.Value.TheVariants.{Loc as loc}
use Rattle.sf_heap.specs.Cells.{Cells, FieldValues}

-- the number belongs to an element of the list
abbrev pub IsOfOne : {X : Type 0} → (X → ℕ → Type 0) → List X → ℕ → Type 0
IsOfOne {X} M xs number = (x : X) × Contains xs x × M x number

-- the value is that location
abbrev pub IsLocation : Value → ℕ → Type 0
IsLocation value location = value ≡ loc location

-- the location is one of these values
abbrev pub IsValueIn : List Value → ℕ → Type 0
IsValueIn = IsOfOne IsLocation

-- it is that place, or in the cell there
abbrev pub IsInCell : Cells → (place : ℕ) → ℕ → Type 0
IsInCell heap place location = (location ≡ place)
    ⊎ ((here : FieldValues) × (get heap place ≡ Some here) × IsValueIn here location)

-- the unit was raised above all these numbers, and no further
pub record Raises (M : ℕ → Type 0) (old new : ℕ) : Type 0 where
  pub up : old ≤ new
  pub above : (number : ℕ) → M number → number < new
  pub is : (new ≡ old) ⊎ ((number : ℕ) × M number × (new ≡ number + 1))

-- each of these is below 2^62
abbrev pub AreInBounds : (ℕ → Type 0) → Type 0
AreInBounds M = (number : ℕ) → M number → number < 2 ^ 62
