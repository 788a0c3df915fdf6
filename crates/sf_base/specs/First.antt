-- What comes first: the order of places in a text, and the first among the things of a list.
-- Ordinary: places by line, then by column; the least of a list, and of several least ones the first in it.
use Rattle.std.specs.Prelude.{◌≡◌, Bool, true, false, ◌&&◌, ◌||◌, ◌==◌, nat_lt, List, [], ◌∷◌, ◌++◌, Option, Some, None}
use Rattle.std.specs.List.{All}
use Rattle.sf_base.specs.declared.place.Place.{Place}

-- the one place comes before the other in the text
abbrev pub is_before : Place → Place → Bool
is_before p q = nat_lt p.line q.line || ((p.line == q.line) && nat_lt p.column q.column)

-- it is one of these, all those before it in the list are later, and none of those after it is earlier
pub record IsFirstAmong {A : Type 0} (is_earlier : A → A → Bool) (all : List A) (first : A) : Type 0 where
  pub before : List A
  pub after : List A
  pub among : all ≡ before ++ first ∷ after
  pub later : All (λ x. is_earlier first x ≡ true) before
  pub not_earlier : All (λ x. is_earlier x first ≡ false) after

-- the first among these, where there are any
abbrev pub IsFirstOf : {A : Type 0} → (A → A → Bool) → List A → Option A → Type 0
IsFirstOf is_earlier all None = all ≡ []
IsFirstOf is_earlier all (Some first) = IsFirstAmong is_earlier all first
