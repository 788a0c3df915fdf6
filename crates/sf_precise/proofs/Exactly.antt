-- An assertion has one order or a first conjunct that is never taken, and not both; so have all annotations.
-- Names: `WHAT-once` says that there is one at most; `only-ANSWER` that a call answers that where it is due.
use Rattle.std.specs.Prelude.{◌≡◌, ◌⊎◌, Bool, false, List, [], ◌∷◌, ℕ, Some, IfOk, IfErr, MatchResult}
use Rattle.std.specs.declared.result.Result.{Result}
use Rattle.std.specs.declared.result.Result.TheVariants.{Ok, Err}
use Rattle.std.proofs.Common.{◌∙◌, refl, sym, ap, inl, inr, subst}
use Rattle.sf_base.proofs.Elements.{contains-nil, contains-cons}
use Rattle.sf_base.proofs.Places.{is_before-neither}
use Rattle.sf_base.specs.declared.place.Place.{Place}
use Rattle.sf_core.specs.declared.command.Expr.{Expr}
use Rattle.sf_core.specs.Assertions.Determined.{Determined}
use Rattle.sf_core.specs.Program.Syntax.{Assertion, Conjuncts, none, also, Level, level}
use Rattle.sf_precise.specs.declared.fault.OrderFault.{OrderFault}
use Rattle.sf_precise.specs.declared.fault.OrderFault.TheVariants.{Undetermined, OutOfMemory}
use Rattle.sf_precise.specs.Annotations.{AreOrdersOf, IsFirstPlace, NeverTakenIn}
use Rattle.sf_precise.specs.Order.{IsOrderOf}
use Rattle.sf_precise.specs.Taken.{IfUndetermined, IsFirstNeverTaken, NeverTakenAt}
use Rattle.sf_precise.proofs.Closing.{never_taken_is_undetermined, order_is_unique, ordered_is_determined}

order-once : (a o u : Assertion) → IsOrderOf a o → IsOrderOf a u → o ≡ u
order-once a o u i j =
    let names = i.names ∙ sym j.names in
    let levels = order_is_unique a.level o.level u.level i.level j.level in
    λ k. record { names = names k; level = levels k }

never_taken-once : {E : Type 0} (known : ℕ → Bool) (all cs : Conjuncts E) (p q : Place)
    → IsFirstNeverTaken known all cs p → IsFirstNeverTaken known all cs q → p ≡ q
never_taken-once known all none p q h k = absurd h
never_taken-once known all (also c cs) p q (inl h) (inl k) = sym h.1 ∙ k.1
never_taken-once known all (also c cs) p q (inl h) (inr k) = absurd (k.0 h.0)
never_taken-once known all (also c cs) p q (inr h) (inl k) = absurd (h.0 k.0)
never_taken-once known all (also c cs) p q (inr h) (inr k) = never_taken-once known all cs p q h.1 k.1

at-once : (a : Level Expr) (p q : Place) → NeverTakenAt a p → NeverTakenAt a q → p ≡ q
at-once (level made cs) p q h k = never_taken-once (λ n. false) cs cs p q h k

pub only-ordered : {X : Type 0} (a : Assertion) (view : X → Assertion) (r : Result X OrderFault)
    → IfOk r (λ x. IsOrderOf a (view x)) → IfErr r (λ e. IfUndetermined e (λ p. ¬ (Determined a.level)))
    → (o : Assertion) → IsOrderOf a o → MatchResult r (λ x. view x ≡ o) (λ e. e ≡ OutOfMemory)
only-ordered a view (Ok x) found refused o i = order-once a (view x) o found i
only-ordered a view (Err (Undetermined p)) found refused o i =
    absurd (refused (ordered_is_determined a.level o.level i.level).0)
only-ordered a view (Err OutOfMemory) found refused o i = refl

pub only-undetermined : {X : Type 0} (a : Assertion) (r : Result X OrderFault)
    → IfOk r (λ x. Determined a.level) → IfErr r (λ e. IfUndetermined e (NeverTakenAt a.level)) → (p : Place)
    → NeverTakenAt a.level p → MatchResult r (λ x. ⊥) (λ e. (e ≡ Undetermined p) ⊎ (e ≡ OutOfMemory))
only-undetermined a (Ok x) found refused p h = never_taken_is_undetermined a.level p h found
only-undetermined a (Err (Undetermined q)) found refused p h =
    inl (ap Undetermined (at-once a.level q p refused h))
only-undetermined a (Err OutOfMemory) found refused p h = inr refl

-- the orders of all annotations
orders-once : (notes os us : List Assertion) → AreOrdersOf notes os → AreOrdersOf notes us → os ≡ us
orders-once [] [] [] h k = refl
orders-once [] [] (u ∷ us) h k = absurd k
orders-once [] (o ∷ os) us h k = absurd h
orders-once (a ∷ rest) [] us h k = absurd h
orders-once (a ∷ rest) (o ∷ os) [] h k = absurd k
orders-once (a ∷ rest) (o ∷ os) (u ∷ us) h k =
    let one : o ≡ u = order-once a o u h.0 k.0 in
    let others : os ≡ us = orders-once rest os us h.1 k.1 in
    cc

-- annotations that are in order are determined
orders-apart : (notes os : List Assertion) (p : Place) → AreOrdersOf notes os → NeverTakenIn notes p → ⊥
orders-apart [] os p h (a, c, n) = contains-nil a c
orders-apart (b ∷ rest) [] p h n = absurd h
orders-apart (b ∷ rest) (o ∷ os) p h (a, c, n) = elim ((contains-cons b rest a).0 c) [
  | inl e ↦
      never_taken_is_undetermined b.level p (subst (λ (z : Assertion). NeverTakenAt z.level p) (sym e) n)
      (ordered_is_determined b.level o.level h.0.level).0
  | inr k ↦ orders-apart rest os p h.1 (a, k, n)
]

first-once : (P : Place → Type 0) (p q : Place) → IsFirstPlace P (Some p) → IsFirstPlace P (Some q) → p ≡ q
first-once P p q h i = is_before-neither p q (i.1 p h.0) (h.1 q i.0)

pub only-arranged : {X : Type 0} (notes : List Assertion) (view : X → List Assertion) (r : Result X OrderFault)
    → IfOk r (λ x. AreOrdersOf notes (view x))
    → IfErr r (λ e. IfUndetermined e (λ p. IsFirstPlace (NeverTakenIn notes) (Some p)))
    → (os : List Assertion) → AreOrdersOf notes os
    → MatchResult r (λ x. view x ≡ os) (λ e. e ≡ OutOfMemory)
only-arranged notes view (Ok x) found refused os h = orders-once notes (view x) os found h
only-arranged notes view (Err (Undetermined p)) found refused os h =
    absurd (orders-apart notes os p h refused.0)
only-arranged notes view (Err OutOfMemory) found refused os h = refl

pub only-stuck : {X : Type 0} (notes : List Assertion) (view : X → List Assertion) (r : Result X OrderFault)
    → IfOk r (λ x. AreOrdersOf notes (view x))
    → IfErr r (λ e. IfUndetermined e (λ p. IsFirstPlace (NeverTakenIn notes) (Some p)))
    → (p : Place) → IsFirstPlace (NeverTakenIn notes) (Some p)
    → MatchResult r (λ x. ⊥) (λ e. (e ≡ Undetermined p) ⊎ (e ≡ OutOfMemory))
only-stuck notes view (Ok x) found refused p h = orders-apart notes (view x) p found h.0
only-stuck notes view (Err (Undetermined q)) found refused p h =
    inl (ap Undetermined (first-once (NeverTakenIn notes) q p refused h))
only-stuck notes view (Err OutOfMemory) found refused p h = inr refl
