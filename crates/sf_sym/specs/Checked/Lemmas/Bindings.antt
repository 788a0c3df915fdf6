-- What existentials stand for: one more of them gets a term, and the values of operands and tests by those terms.
-- Names: `set-LAW` of the bindings with one more, `operand-LAW` of an operand that has a term, `test-LAW` of a test.
use Rattle.std.specs.Prelude.{◌⊎◌, ◌↔◌}
use Rattle.std.proofs.Common.{◌≡◌, ℕ, ◌<◌, ◌==◌, Bool, true, false, List, Option, Some, None, get_or, length, set, refl, sym, ap, ◌∙◌, subst, inl, inr}
use Rattle.std.proofs.lemmas.Bool.Decides.{Decides-eqb}
use Rattle.std.proofs.lemmas.List.{get_or-set_other, get_or-set_same, length-set}
use Rattle.std.proofs.lemmas.Option.{none-some, same_Some}
use Rattle.sf_base.specs.declared.value.Value.{Value}
use Rattle.sf_core.specs.Assertions.Occurs.{OccursInAll}
use Rattle.sf_core.specs.Assertions.Sat.{IsTrueOf, operand}
use Rattle.sf_core.specs.declared.assertion.Operand.{Operand}
use Rattle.sf_core.specs.declared.assertion.Operand.TheVariants.{Known, Exists}
use Rattle.sf_core.specs.declared.assertion.Test.{Test}
use Rattle.sf_core.specs.declared.assertion.Test.TheVariants.{True, Equal, Differ}
use Rattle.sf_core.specs.Program.Syntax.{Conjuncts}
use Rattle.sf_sym.specs.Below.{AllInPending, IsBelow}
use Rattle.sf_sym.specs.Decided.{term_of, test_of_terms, two_terms}
use Rattle.sf_sym.specs.declared.term.Term.{Term}
use Rattle.sf_sym.specs.Holds.{term_value, IsBound}

module _ (bindings : List (Option Term)) (n : ℕ) (u : Term) where
  -- it has that term
  pub set-here : n < length bindings → get_or (set bindings n (Some u)) n None ≡ Some u
  set-here within = get_or-set_same bindings n (Some u) None within

  -- what the others stand for stays
  pub set-keeps : get_or bindings n None ≡ None → (m : ℕ) (t : Term) → get_or bindings m None ≡ Some t
      → get_or (set bindings n (Some u)) m None ≡ Some t
  set-keeps free m t e =
      get_or-set_other bindings n m (Some u) None
      (λ same. none-some t (sym free ∙ ap (λ k. get_or bindings k None) (sym same) ∙ e)) ∙ e

  -- one that has a term is the new one, or had it before
  pub set-which : n < length bindings → (m : ℕ) (t : Term) → get_or (set bindings n (Some u)) m None ≡ Some t
      → ((n ≡ m) × (u ≡ t)) ⊎ (get_or bindings m None ≡ Some t)
  set-which within m t e = go (n == m) refl
    where
      go : (b : Bool) → n == m ≡ b → ((n ≡ m) × (u ≡ t)) ⊎ (get_or bindings m None ≡ Some t)
      go true i =
          let same : n ≡ m = (Decides-eqb n m).0 i in
          inl (
            same,
            same_Some u t
                (sym (set-here within) ∙ ap (λ k. get_or (set bindings n (Some u)) k None) same ∙ e),
          )
      go false i = inr (sym (get_or-set_other bindings n m (Some u) None
          (λ same. let other : n == m ≡ true = (Decides-eqb n m).1 (sym same) in absurd (cc))) ∙ e)

  -- each has a property that the new one and the others have
  pub set-all : (P : Term → Type 0) → n < length bindings → P u
      → ((m : ℕ) (t : Term) → get_or bindings m None ≡ Some t → P t)
      → (m : ℕ) (t : Term) → get_or (set bindings n (Some u)) m None ≡ Some t → P t
  set-all P within here others m t e = elim (set-which within m t e) [
    | inl new ↦ subst P new.1 here
    | inr old ↦ others m t old
  ]

  -- there are as many
  pub set-length : length (set bindings n (Some u)) ≡ length bindings
  set-length = length-set bindings n (Some u)

-- Operands that have terms
-- the value of an operand is that of its term
pub operand-is : (w some : ℕ → Value) (bindings : List (Option Term)) (x : Operand Term) (t : Term)
    → IsBound w bindings some → term_of bindings x ≡ Some t → operand (term_value w) some x ≡ term_value w t
operand-is w some bindings (Known u) t bound e = ap (term_value w) (same_Some u t e)
operand-is w some bindings (Exists n) t bound e = bound n t e

-- the term of an operand that occurs is below the next symbol
pub operand-below : (n : ℕ) (bindings : List (Option Term)) (cs : Conjuncts Term) (x : Operand Term) (t : Term)
    → AllInPending (IsBelow n) (record { conjuncts = cs; bindings = bindings }) → OccursInAll cs x
    → term_of bindings x ≡ Some t → IsBelow n t
operand-below n bindings cs (Known u) t below o e =
    subst (IsBelow n) (same_Some u t e) (below.conjuncts u o)
operand-below n bindings cs (Exists m) t below o e = below.bindings m t e

-- Tests of operands that have terms
-- two terms that are there
terms-are : (make : Term → Term → Test Term) (o p : Option Term) (terms : Test Term)
    → two_terms make o p ≡ Some terms
    → (t : Term) × (u : Term) × (o ≡ Some t) × (p ≡ Some u) × (make t u ≡ terms)
terms-are make (Some t) (Some u) terms e = (t, u, refl, refl, same_Some (make t u) terms e)
terms-are make (Some t) None terms e = absurd (cc)
terms-are make None p terms e = absurd (cc)

-- a test is true exactly where it is true of its terms
pub test-is : (w some : ℕ → Value) (bindings : List (Option Term)) (test : Test (Operand Term)) (terms : Test Term)
    → IsBound w bindings some → test_of_terms bindings test ≡ Some terms
    → IsTrueOf (operand (term_value w) some) test ↔ IsTrueOf (term_value w) terms
test-is w some bindings True terms bound e =
    subst (λ z. IsTrueOf (operand (term_value w) some) True ↔ IsTrueOf (term_value w) z) (same_Some True terms e)
    (λ i. i, λ i. i)
test-is w some bindings (Equal x y) terms bound e =
    let (t, u, i, j, same) = terms-are Equal (term_of bindings x) (term_of bindings y) terms e in
    let one = operand-is w some bindings x t bound i in
    let two = operand-is w some bindings y u bound j in
    subst (λ z. IsTrueOf (operand (term_value w) some) (Equal x y) ↔ IsTrueOf (term_value w) z) same
    (λ k. sym one ∙ k ∙ two, λ k. one ∙ k ∙ sym two)
test-is w some bindings (Differ x y) terms bound e =
    let (t, u, i, j, same) = terms-are Differ (term_of bindings x) (term_of bindings y) terms e in
    let one = operand-is w some bindings x t bound i in
    let two = operand-is w some bindings y u bound j in
    subst (λ z. IsTrueOf (operand (term_value w) some) (Differ x y) ↔ IsTrueOf (term_value w) z) same
    (λ n k. n (one ∙ k ∙ sym two), λ n k. n (sym one ∙ k ∙ two))
