-- What the tests of terms and of pairs tell of the terms' values.
-- Names: `term-LAW` speaks of a term, `pair-LAW` of one pair that differs, `pairs-LAW`
-- of all, `direct-LAW` of terms that differ at once.
use Rattle.std.specs.List.{list_any, AllByRecursion}
use Rattle.std.specs.Ordering.{int_eq}
use Rattle.std.proofs.Common.{◌≡◌, ◌≢◌, ℕ, true, ◌&&◌, not, List, [], ◌∷◌, sym, ap, ◌∙◌, inl, inr}
use Rattle.std.proofs.lemmas.Bool.Decides.{Decides-int_eq}
use Rattle.std.proofs.lemmas.Bool.{or_cases}
use Rattle.sf_base.proofs.Bools.{not-both, and-left, and-right}
use Rattle.sf_base.specs.declared.value.Value.{Value}
use Rattle.sf_base.specs.declared.value.Value.TheVariants.{Loc as loc}
use Rattle.sf_sym.specs.declared.term.Term.{Term}
use Rattle.sf_sym.specs.declared.term.Term.TheVariants.{Nil, Int, Sym}
use Rattle.sf_sym.specs.Holds.{term_value, Differ}
use Rattle.sf_sym.specs.Checked.Lemmas.{same_term_is}
use Rattle.sf_sym.specs.Tests.{same_term, is_constant, is_pair, differs_at_once}

-- different constants have different values
pub term-constants : (w : ℕ → Value) (t u : Term)
    → is_constant t && is_constant u && not (same_term t u) ≡ true → term_value w t ≢ term_value w u
term-constants w Nil Nil e = absurd (cc)
term-constants w Nil (Int j) e = λ p. absurd (cc)
term-constants w Nil (Sym n) e = absurd (cc)
term-constants w (Int i) Nil e = λ p. absurd (cc)
term-constants w (Int i) (Int j) e = λ p. not-both (int_eq i j) ((Decides-int_eq i j).1 (cc)) e
term-constants w (Int i) (Sym n) e = absurd (cc)
term-constants w (Sym m) u e = absurd (cc)

-- a constant is no location
pub term-constant_no_location : (w : ℕ → Value) (t : Term) (l : ℕ) → is_constant t ≡ true
    → term_value w t ≡ loc l → ⊥
term-constant_no_location w Nil l e p = absurd (cc)
term-constant_no_location w (Int i) l e p = absurd (cc)
term-constant_no_location w (Sym n) l e p = absurd (cc)

-- terms that are pairwise one have pairwise one value
pair-values : (w : ℕ → Value) (a b t u : Term) → same_term a t && same_term b u ≡ true
    → (term_value w a ≡ term_value w t) × (term_value w b ≡ term_value w u)
pair-values w a b t u e = (
  ap (term_value w) (same_term_is a t (and-left (same_term a t) (same_term b u) e)),
  ap (term_value w) (same_term_is b u (and-right (same_term a t) (same_term b u) e)),
)

-- the two terms of a pair that differs have different values
pub pair-differs : (w : ℕ → Value) (t u : Term) (p : Term × Term) → Differ w p → is_pair t u p ≡ true
    → term_value w t ≢ term_value w u
pair-differs w t u p d e q =
    elim (or_cases (same_term p.0 t && same_term p.1 u) (same_term p.0 u && same_term p.1 t) e) [
      | inl y ↦ let s = pair-values w p.0 p.1 t u y in d (s.0 ∙ q ∙ sym s.1)
      | inr y ↦ let s = pair-values w p.0 p.1 u t y in d (s.0 ∙ sym q ∙ sym s.1)
    ]

-- so have those of any pair of a list
pub pairs-differ : (w : ℕ → Value) (apart : List (Term × Term)) (t u : Term)
    → AllByRecursion (Differ w) apart → list_any (is_pair t u) apart ≡ true
    → term_value w t ≢ term_value w u
pairs-differ w [] t u d e = absurd (cc)
pairs-differ w (p ∷ ps) t u d e = elim (or_cases (is_pair t u p) (list_any (is_pair t u) ps) e) [
  | inl y ↦ pair-differs w t u p d.0 y
  | inr y ↦ pairs-differ w ps t u d.1 y
]

-- terms that differ at once have different values
pub direct-differs : (w : ℕ → Value) (apart : List (Term × Term)) (t u : Term)
    → AllByRecursion (Differ w) apart → differs_at_once apart t u ≡ true → term_value w t ≢ term_value w u
direct-differs w apart t u d e =
    elim (or_cases (is_constant t && is_constant u && not (same_term t u)) (list_any (is_pair t u) apart) e)
    [ inl y ↦ term-constants w t u y | inr y ↦ pairs-differ w apart t u d y ]

-- no pair that differs is of one term
pub pairs-irreflexive : (w : ℕ → Value) (apart : List (Term × Term)) → AllByRecursion (Differ w) apart
    → list_any (λ p. same_term p.0 p.1) apart ≡ true → ⊥
pairs-irreflexive w [] d e = absurd (cc)
pairs-irreflexive w (p ∷ ps) d e =
    elim (or_cases (same_term p.0 p.1) (list_any (λ p. same_term p.0 p.1) ps) e) [
      | inl y ↦ d.0 (ap (term_value w) (same_term_is p.0 p.1 y))
      | inr y ↦ pairs-irreflexive w ps d.1 y
    ]
