-- What follows from its truncation: what is decidable, and what is built of such parts.
-- Names: `had_PART` says that what is built of PART follows from its truncation.
use Rattle.std.proofs.Common.{◌↔◌, List, AllPairs, inl, inr}
use Rattle.std.proofs.Math.Logic.{∥∥₁_elim, ∥∥₁_map}
use Rattle.sf_calls.specs.Checked.Lemmas.Decidable.{IsDecidable}

-- a type that follows from its truncation
abbrev pub IsHad : Type 0 → Type 0
IsHad P = ∥ P ∥₁ → P

-- what has one proof at most
pub had_once : {P : Type 0} → IsProp P → IsHad P
had_once once h = ∥∥₁_elim h once (λ x. x)

-- what never is
pub had_never : {P : Type 0} → (P → ⊥) → IsHad P
had_never never h = absurd (∥∥₁_elim h (hlevel) never)

-- what is or isn't
pub had_decidable : {P : Type 0} → IsDecidable P → IsHad P
had_decidable (inl p) h = p
had_decidable (inr n) h = had_never n h

-- two facts
pub had_both : {P Q : Type 0} → IsHad P → IsHad Q → IsHad (P × Q)
had_both p q h = (p (∥∥₁_map h (λ x. x.0)), q (∥∥₁_map h (λ x. x.1)))

-- a fact about each value
pub had_each : {A : Type 0} (P : A → Type 0) → ((x : A) → IsHad (P x)) → IsHad ((x : A) → P x)
had_each P had h = λ x. had x (∥∥₁_map h (λ f. f x))

-- what follows from a fact
pub had_if : {P Q : Type 0} → IsHad Q → IsHad (P → Q)
had_if {P} {Q} had = had_each (λ (p : P). Q) (λ p. had)

-- that two facts hold together
pub had_exactly : {P Q : Type 0} → IsHad P → IsHad Q → IsHad (P ↔ Q)
had_exactly p q = had_both (had_if q) (had_if p)

-- that an order holds of all pairs of a list
pub had_pairs : {A : Type 0} (B : A → A → Type 0) → ((x y : A) → IsHad (B x y)) → (xs : List A)
    → IsHad (AllPairs B xs)
had_pairs {A} B had xs h = λ i j d i_below j_below. had _ _ (∥∥₁_map h (λ a. a i j d i_below j_below))
