-- Places by their order in the text.
-- Names: `is_before-LAW`.
use Rattle.std.specs.Prelude.{◌≡◌, true}
use Rattle.std.proofs.Common.{arith}
use Rattle.std.proofs.lemmas.Bool.Decides.{nat_tests}
use Rattle.sf_base.specs.declared.place.Place.{Place}
use Rattle.sf_base.specs.First.{is_before}

-- places of which neither is before the other are one
pub is_before-neither : (p q : Place) → (is_before p q ≡ true → ⊥) → (is_before q p ≡ true → ⊥) → p ≡ q
is_before-neither p q h i =
    let lines : p.line ≡ q.line = grind (arith, nat_tests) in
    let columns : p.column ≡ q.column = grind (arith, nat_tests) in
    λ k. record { line = lines k; column = columns k }
