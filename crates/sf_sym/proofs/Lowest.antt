-- The first atom that passes a test has the lowest number of those that pass it.
-- Names: `lowest-LAW` of a list with one atom more in front, TEST-lowest of the first atom that passes it.
use Rattle.std.proofs.Common.{◌≡◌, ℕ, ◌<◌, Bool, true, false, cond, is_some, Option, Some, None, List, [], ◌∷◌, refl, ap, subst, inl, inr, arith}
use Rattle.std.specs.List.{AllByRecursion, Contains}
use Rattle.std.specs.Option.{option_map}
use Rattle.sf_base.proofs.Elements.{contains-cons, contains-nil}
use Rattle.sf_sym.specs.declared.atom.Numbered.{Numbered}
use Rattle.sf_sym.specs.declared.term.Term.{Term}
use Rattle.sf_sym.specs.Known.{IsLowest, first_forced, first_nothing, forced_pair, is_nothing, or_else}
use Rattle.sf_sym.specs.Numbers.{AreRising, numbers}
use Rattle.sf_sym.specs.State.{State}

-- a number is below that of each atom, where it is below all
below-each : (n : ℕ) (xs : List Numbered) → AllByRecursion (λ m. n < m) (numbers xs) → (a : Numbered) → Contains xs a
    → n < a.number
below-each n [] all a c = absurd (contains-nil a c)
below-each n (x ∷ xs) all a c = elim ((contains-cons x xs a).0 c) [
  | inl here ↦ subst (λ (z : Numbered). n < z.number) here all.0
  | inr there ↦ below-each n xs all.1 a there
]

module _ (test : Numbered → Bool) (x : Numbered) (xs : List Numbered) where
  -- one that passes the test, before others with higher numbers
  pub lowest-here : AreRising (numbers (x ∷ xs)) → test x ≡ true → IsLowest test (x ∷ xs) (Some x.number)
  lowest-here r e = (
    (x, (contains-cons x xs x).1 (inl refl), refl, e),
    λ a c t. elim ((contains-cons x xs a).0 c) [
      | inl here ↦ let same = ap (λ (z : Numbered). z.number) here in omega (arith, same)
      | inr there ↦ let more = below-each x.number xs r.0 a there in omega (arith, more)
    ],
  )

  -- one that doesn't
  pub lowest-later : (o : Option ℕ) → test x ≡ false → IsLowest test xs o → IsLowest test (x ∷ xs) o
  lowest-later None e h = λ a c. elim ((contains-cons x xs a).0 c) [
    | inl here ↦ subst (λ z. test z ≡ false) here e
    | inr there ↦ h a there
  ]
  lowest-later (Some n) e h = (
    (h.0.0, (contains-cons x xs h.0.0).1 (inr h.0.1), h.0.2, h.0.3),
    λ a c t. elim ((contains-cons x xs a).0 c) [
      | inl here ↦ let other = subst (λ z. test z ≡ false) here e in absurd (cc)
      | inr there ↦ h.1 a there t
    ],
  )

pub nothing-lowest : (xs : List Numbered) → AreRising (numbers xs)
    → IsLowest (λ a. is_nothing a.atom) xs (first_nothing xs)
nothing-lowest [] r = λ a c. absurd (contains-nil a c)
nothing-lowest (x ∷ xs) r = go (nothing-lowest xs r.1) (is_nothing x.atom) refl
  where
    go : IsLowest (λ a. is_nothing a.atom) xs (first_nothing xs) → (b : Bool) → is_nothing x.atom ≡ b
        → IsLowest (λ a. is_nothing a.atom) (x ∷ xs) (cond b (Some x.number) (first_nothing xs))
    go others true e = lowest-here (λ a. is_nothing a.atom) x xs r e
    go others false e = lowest-later (λ a. is_nothing a.atom) x xs (first_nothing xs) e others

pub forced-lowest : (s : State) (xs : List Numbered) → AreRising (numbers xs)
    → IsLowest (λ a. is_some (forced_pair s a.number a.atom)) xs (option_map (λ f. f.0) (first_forced s xs))
forced-lowest s [] r = λ a c. absurd (contains-nil a c)
forced-lowest s (x ∷ xs) r = go (forced-lowest s xs r.1) (forced_pair s x.number x.atom) refl
  where
    go : IsLowest (λ a. is_some (forced_pair s a.number a.atom)) xs (option_map (λ f. f.0) (first_forced s xs))
        → (o : Option (Term × Term)) → forced_pair s x.number x.atom ≡ o
        → IsLowest (λ a. is_some (forced_pair s a.number a.atom)) (x ∷ xs)
        (option_map (λ f. f.0) (or_else (option_map (λ e. (x.number, e.0, e.1)) o) (first_forced s xs)))
    go others (Some ends) e =
        lowest-here (λ a. is_some (forced_pair s a.number a.atom)) x xs r (ap is_some e)
    go others None e =
        lowest-later (λ a. is_some (forced_pair s a.number a.atom)) x xs
        (option_map (λ f. f.0) (first_forced s xs)) (ap is_some e) others
