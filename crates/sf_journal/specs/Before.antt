-- Before: which of two elements of a list comes first in it.
-- Ordinary: the order of a list.
use Rattle.std.specs.Prelude.{◌≡◌, ◌⊎◌, List, [], ◌∷◌, Contains}

-- a comes before b in the list
abbrev pub IsBefore : {X : Type 0} → List X → X → X → Type 0
IsBefore [] a b = ⊥
IsBefore (x ∷ xs) a b = ((x ≡ a) × Contains xs b) ⊎ IsBefore xs a b
