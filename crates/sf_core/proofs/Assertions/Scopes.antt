-- Scopes that make no existential twice.
-- Names: `disjoint-LAW` of scopes of which no two overlap, `below-LAW` of scopes within a count of names.
use Rattle.std.specs.Prelude.{◌≤◌, ℕ, ◌+◌, [], ◌∷◌}
use Rattle.std.specs.List.{All, IsDistinct}
use Rattle.std.proofs.lemmas.List.Elements.{All-cons, All-nil}
use Rattle.sf_core.specs.declared.assertion.Scope.{Scope}
use Rattle.sf_core.specs.Assertions.Scopes.{overlap}

-- one scope alone overlaps none
pub disjoint-single : (s : Scope) → IsDistinct overlap (s ∷ [])
unfolding IsDistinct
disjoint-single s = (tt, tt)

-- and is within a count where it is
pub below-single : (s : Scope) (count : ℕ) → s.first + s.count ≤ count
    → All (λ (t : Scope). t.first + t.count ≤ count) (s ∷ [])
below-single s count h =
    All-cons (λ (t : Scope). t.first + t.count ≤ count) s [] h (All-nil (λ (t : Scope). t.first + t.count ≤ count))
