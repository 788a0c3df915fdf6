-- Which conjuncts can be taken, while more becomes known.
-- Names: `ready-LAW` of conjuncts that can be taken, `order-LAW` of conjuncts in order.
use Rattle.std.proofs.Common.{◌≡◌, ℕ, Bool, true, not, ◌&&◌, ◌==◌, List, [], ◌∷◌, refl, sym, ap, ap₂, subst, inl, inr, true≢false, arith}
use Rattle.std.proofs.lemmas.Bool.{and_parts, or_cases, or_left, or_right}
use Rattle.std.proofs.lemmas.Bool.Decides.{nat_tests}
use Rattle.sf_base.proofs.Sums.{either}
use Rattle.sf_base.specs.declared.ids.FieldId.{FieldId}
use Rattle.sf_base.specs.declared.place.Place.{Place}
use Rattle.sf_core.specs.declared.assertion.Operand.{Operand}
use Rattle.sf_core.specs.declared.assertion.Operand.TheVariants.{Known as Evaluates, Exists}
use Rattle.sf_core.specs.declared.assertion.Scope.{Scope}
use Rattle.sf_core.specs.declared.assertion.Test.{Test}
use Rattle.sf_core.specs.declared.assertion.Test.TheVariants.{True, Equal, Differ}
use Rattle.sf_core.specs.Assertions.Determined.{IsKnown, is_existential, is_in_fields, is_learned, known_after, known_inside}
use Rattle.sf_core.specs.Assertions.InOrder.{InOrder, InOrderInside, IsNext, is_known}
use Rattle.sf_core.specs.Assertions.Occurs.{OccursInFields}
use Rattle.sf_core.specs.Assertions.Scopes.{is_made_by}
use Rattle.sf_core.specs.Program.Syntax.{Conjunct, holds, points, segment, doubly, tree, choose, Level, level, Conjuncts, none, also}
use Rattle.sf_foot.specs.declared.known.Known.{Known}
use Rattle.sf_foot.specs.Checked.Known.{Grows, IsWithin, is_told}
use Rattle.sf_foot.specs.Checked.Taking.{AreReady, IsReadyNow, TestIsKnown}
use Rattle.sf_foot.proofs.Knowing.{within-grows}

-- sets with the same numbers are the same
set-same : (p q : ℕ → Bool) → ((n : ℕ) → p n ≡ q n) → p ≡ q
set-same p q e = λ i n. e n i

more-inside : (made : Scope) (k l : ℕ → Bool) → ((n : ℕ) → k n ≡ true → l n ≡ true) → (n : ℕ)
    → known_inside made k n ≡ true → known_inside made l n ≡ true
more-inside made k l m n e =
    let i = and_parts (k n) (not (is_made_by made n)) e in ap₂ ◌&&◌ (m n i.0) i.1

-- a place, where it doesn't matter
pub somewhere : Place
somewhere = record { line = 0; column = 0 }

module _ {E : Type 0} where
  -- the first of conjuncts that can be taken can be
  pub ready-first : (a : Known) (c : Conjunct E) (cs : Conjuncts E) → AreReady a (also c cs) → IsReadyNow a c
  ready-first a c cs h = record { next = h.in_order.0; within = λ n o. h.within n (inl o) }

  -- and once it is taken, so can the others
  pub ready-rest : (a b : Known) (c : Conjunct E) (cs : Conjuncts E) → AreReady a (also c cs)
      → Grows (is_learned c) a b → AreReady b cs
  ready-rest a b c cs h g = record {
    in_order = subst (λ (k : ℕ → Bool). InOrder k cs)
        (sym (set-same (is_told b) (known_after c (is_told a)) g.more)) h.in_order.1;
    within = λ n o. within-grows (is_learned c) a b n g (h.within n (inr o));
  }

  -- Conjuncts in order are in order where more is known
  more-known : (k l : ℕ → Bool) → ((n : ℕ) → k n ≡ true → l n ≡ true) → (x : Operand E) → IsKnown k x → IsKnown l x
  more-known k l m (Evaluates x) h = tt
  more-known k l m (Exists n) h = m n h

  more-test : (k l : ℕ → Bool) → ((n : ℕ) → k n ≡ true → l n ≡ true) → (x : Operand E)
      → is_known k x ≡ true → is_known l x ≡ true
  more-test k l m (Evaluates x) h = refl
  more-test k l m (Exists n) h = m n h

  more-after : (c : Conjunct E) (k l : ℕ → Bool) → ((n : ℕ) → k n ≡ true → l n ≡ true) → (n : ℕ)
      → known_after c k n ≡ true → known_after c l n ≡ true
  more-after c k l m n e = either (or_cases (k n) (is_learned c n) e)
      (λ i. or_left (l n) (is_learned c n) (m n i)) (λ i. or_right (l n) (is_learned c n) i)

  mutual
    pub order-more : (k l : ℕ → Bool) → ((n : ℕ) → k n ≡ true → l n ≡ true) → (cs : Conjuncts E) → InOrder k cs
        → InOrder l cs
    order-more k l m none h = tt
    order-more k l m (also c cs) h =
        (next-more k l m c h.0, order-more (known_after c k) (known_after c l) (more-after c k l m) cs h.1)

    next-more : (k l : ℕ → Bool) → ((n : ℕ) → k n ≡ true → l n ≡ true) → (c : Conjunct E) → IsNext k c → IsNext l c
    next-more k l m (holds p True) h = tt
    next-more k l m (holds p (Equal x y)) h = either (or_cases (is_known k x) (is_known k y) h)
        (λ i. or_left (is_known l x) (is_known l y) (more-test k l m x i))
        (λ i. or_right (is_known l x) (is_known l y) (more-test k l m y i))
    next-more k l m (holds p (Differ x y)) h = (more-known k l m x h.0, more-known k l m y h.1)
    next-more k l m (points p x fs) h = more-known k l m x h
    next-more k l m (segment p next x y) h = (more-known k l m x h.0, more-known k l m y h.1)
    next-more k l m (doubly p next back x b z y) h =
        (more-known k l m x h.0, more-known k l m b h.1, more-known k l m z h.2, more-known k l m y h.3)
    next-more k l m (tree p left right x) h = more-known k l m x h
    next-more k l m (choose p t this that) h =
        (λ n o. m n (h.0 n o), inside-more k l m this h.1, inside-more k l m that h.2)

    inside-more : (k l : ℕ → Bool) → ((n : ℕ) → k n ≡ true → l n ≡ true) → (a : Level E) → InOrderInside k a
        → InOrderInside l a
    inside-more k l m (level made cs) h =
        order-more (known_inside made k) (known_inside made l) (more-inside made k l m) cs h

-- What a conjunct needs
module _ {E : Type 0} where
  -- an existential that is an operand, or a value of fields
  pub existential-is : (n : ℕ) (x : Operand E) → is_existential n x ≡ true → Exists n ≡ x
  existential-is n (Evaluates x) e = absurd (true≢false (sym e))
  existential-is n (Exists m) e = ap Exists (one m n e)
    where
      one : (m n : ℕ) → (m == n) ≡ true → n ≡ m
      one m n i = grind (arith, nat_tests)

  pub occurs-fields : (n : ℕ) (fs : List (FieldId × Operand E)) → is_in_fields n fs ≡ true
      → OccursInFields fs (Exists n)
  occurs-fields n [] e = absurd (true≢false (sym e))
  occurs-fields n (f ∷ fs) e = either (or_cases (is_existential n f.1) (is_in_fields n fs) e)
      (λ i. inl (existential-is n f.1 i)) (λ i. inr (occurs-fields n fs i))

  -- the sides of an equality may become known
  pub ready-left : (a : Known) (p : Place) (x y : Operand E) → IsReadyNow a (holds p (Equal x y)) → (n : ℕ)
      → is_existential n x ≡ true → IsWithin a n
  ready-left a p x y h n e = h.within n (inl (existential-is n x e))

  pub ready-right : (a : Known) (p : Place) (x y : Operand E) → IsReadyNow a (holds p (Equal x y)) → (n : ℕ)
      → is_existential n y ≡ true → IsWithin a n
  ready-right a p x y h n e = h.within n (inr (existential-is n y e))

  -- and so may the values of fields
  pub ready-fields : (a : Known) (p : Place) (x : Operand E) (fs : List (FieldId × Operand E))
      → IsReadyNow a (points p x fs) → (n : ℕ) → is_in_fields n fs ≡ true → IsWithin a n
  ready-fields a p x fs h n e = h.within n (inr (occurs-fields n fs e))

  -- other tests are known
  pub ready-other : (a : Known) (p : Place) (t : Test (Operand E)) → ((x y : Operand E) → t ≡ Equal x y → ⊥)
      → IsReadyNow a (holds p t) → TestIsKnown a t
  ready-other a p True n h x o = absurd o
  ready-other a p (Equal x y) n h z o = absurd (n x y refl)
  ready-other a p (Differ x y) n h z o = either o
      (λ e. subst (IsKnown (is_told a)) (sym e) h.next.0) (λ e. subst (IsKnown (is_told a)) (sym e) h.next.1)
