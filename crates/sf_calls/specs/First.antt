-- First: of the elements of a list, the first that has a property.
-- Ordinary: what a linear search finds, without the search.
use Rattle.std.specs.Prelude.{◌≡◌, ◌⊎◌, List, [], ◌∷◌, Option, Some, None}

-- what f makes of the first element of which P holds; None where it holds of none
abbrev pub IsFirst : {A X : Type 0} → (X → Type 0) → (X → A) → List X → Option A → Type 0
IsFirst P f [] None = Unit {0}
IsFirst P f [] (Some a) = ⊥
IsFirst P f (x ∷ xs) None = (¬ (P x)) × IsFirst P f xs None
IsFirst P f (x ∷ xs) (Some a) = (P x × (a ≡ f x)) ⊎ ((¬ (P x)) × IsFirst P f xs (Some a))
