-- The units of a task as ranges of the code.
-- Ordinary: a stack with the top last.
use Rattle.std.specs.Prelude.{ℕ, ◌+◌, ◌<◌, ◌≤◌, ◌^◌, List, [], ◌∷◌, ◌++◌, refl}
use Rattle.std.specs.Coded.{Coded, code_by, coded×, coded_ℕ, coded_list}
use Rattle.std.specs.List.{AllByRecursion}
use Rattle.sf_core.specs.Machine.Whole.{Range}
use Rattle.sf_part.specs.declared.supply.Units.{Units}

-- a range of the code
abbrev pub range_of : Units → Range
range_of u = record { first = u.first; count = u.count }

-- the ranges of a list, of which the last comes first
abbrev pub ranges_of : List Units → List Range
ranges_of [] = []
ranges_of (u ∷ us) = ranges_of us ++ range_of u ∷ []

-- none is empty, and their numbers fit
abbrev pub AreFit : List Units → Type 0
AreFit = AllByRecursion (λ u. (0 < u.count) × (u.first + u.count ≤ 2 ^ 63))

-- that ranges are data
abbrev pub range_code : Coded (List Range)
range_code = coded_list (code_by (ℕ × ℕ) (coded× coded_ℕ coded_ℕ) (λ r. (r.first, r.count))
    (λ p. record { first = p.0; count = p.1 }) (λ _. refl))
