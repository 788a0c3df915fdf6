-- Going through annotations: the first place at which a conjunct is never taken, and the orders where
-- there is none.
-- Names: `place-LAW` speaks of the first place, `noted-LAW` of the place and the orders, `read-LAW` of
-- the code's vectors.
use Rattle.std.proofs.Common.{◌≡◌, ◌⊎◌, Bool, true, false, cond, ℕ, ◌+◌, ◌<◌, ◌≤◌, length, get_or, map, take, List, [], ◌∷◌, ◌++◌, Option, Some, None, refl, sym, ap, ◌∙◌, subst, inl, inr, arith}
use Rattle.std.proofs.lemmas.Bool.Decides.{nat_tests}
use Rattle.std.proofs.lemmas.List.{map-append, map_more, take_all}
use Rattle.std.proofs.lemmas.List.Elements.{Contains-append_left, Contains-push, Contains-push_cases}
use Rattle.std.proofs.lemmas.Slice.Zip.{all_zipped_more}
use Rattle.sf_base.proofs.Sums.{either}
use Rattle.sf_base.specs.declared.place.Place.{Place}
use Rattle.sf_core.specs.Assertions.Determined.{Determined}
use Rattle.sf_core.specs.Program.Syntax.{Assertion, Conjuncts, Level, level, none, also}
use Rattle.sf_base.specs.First.{is_before}
use Rattle.sf_precise.specs.Annotations.{AreOrdersOf, IsFirstPlace, NeverTakenIn, earlier_of}
use Rattle.sf_precise.specs.Order.{IsOrderOf}
use Rattle.sf_precise.specs.Taken.{IsFirstNeverTaken, NeverTakenAt}
use Rattle.sf_precise.specs.Checked.Lemmas.Branches.{never-undetermined}

never-one : {E : Type 0} (known : _) (all cs : Conjuncts E) (p q : Place) → IsFirstNeverTaken known all cs p
    → IsFirstNeverTaken known all cs q → p ≡ q
never-one known all none p q i j = absurd i
never-one known all (also c cs) p q (inl i) (inl j) = sym i.1 ∙ j.1
never-one known all (also c cs) p q (inl i) (inr j) = absurd (j.0 i.0)
never-one known all (also c cs) p q (inr i) (inl j) = absurd (i.0 j.0)
never-one known all (also c cs) p q (inr i) (inr j) = never-one known all cs p q i.1 j.1

-- a level has one first conjunct that is never taken
at-one : {E : Type 0} (a : Level E) (p q : Place) → NeverTakenAt a p → NeverTakenAt a q → p ≡ q
at-one (level made cs) p q i j = never-one _ cs cs p q i j

before-not_itself : (p : Place) → is_before p p ≡ true → ⊥
before-not_itself p e = absurd (let c : true ≡ false = sym e ∙ not_less in cc)
  where
    not_less : is_before p p ≡ false
    not_less = grind (arith, nat_tests)

before-further : (p q r : Place) → is_before p q ≡ true → is_before q r ≡ true → is_before p r ≡ true
before-further p q r e f = grind (arith, nat_tests)

-- there is no place in no annotations
pub place-none : IsFirstPlace (NeverTakenIn []) None
place-none q n = let h = n.1.1 in absurd (omega arith)

-- one more annotation that is determined adds no place
pub place-determined : (notes : List Assertion) (first : Option Place) (a : Assertion) → Determined a.level
    → IsFirstPlace (NeverTakenIn notes) first → IsFirstPlace (NeverTakenIn (notes ++ a ∷ [])) first
place-determined notes first a d = go first
  where
    old : (q : Place) → NeverTakenIn (notes ++ a ∷ []) q → NeverTakenIn notes q
    old q (b, c, m) =
        either (Contains-push_cases notes a b c) (λ h. (b, h, m))
        (λ h. absurd (never-undetermined b.level q m
        (subst (λ (z : Assertion). Determined z.level) h d)))

    go : (f : Option Place) → IsFirstPlace (NeverTakenIn notes) f
        → IsFirstPlace (NeverTakenIn (notes ++ a ∷ [])) f
    go None k = λ q m. k q (old q m)
    go (Some p) k =
        ((k.0.0, Contains-append_left notes (a ∷ []) k.0.0 k.0.1, k.0.2), λ r m b. k.1 r (old r m) b)

-- one more annotation with a conjunct that is never taken: the first place is the earlier of the two
pub place-fault : (notes : List Assertion) (first : Option Place) (a : Assertion) (q : Place)
    → NeverTakenAt a.level q → IsFirstPlace (NeverTakenIn notes) first
    → IsFirstPlace (NeverTakenIn (notes ++ a ∷ [])) (Some (earlier_of first q))
place-fault notes first a q m = place first
  where
    new : NeverTakenIn (notes ++ a ∷ []) q
    new = (a, Contains-push notes a, m)

    kept : (p : Place) → NeverTakenIn notes p → NeverTakenIn (notes ++ a ∷ []) p
    kept p (b, c, k) = (b, Contains-append_left notes (a ∷ []) b c, k)

    which : (r : Place) → NeverTakenIn (notes ++ a ∷ []) r → NeverTakenIn notes r ⊎ (q ≡ r)
    which r (b, c, k) =
        either (Contains-push_cases notes a b c) (λ h. inl (b, h, k))
        (λ h. inr (at-one b.level q r (subst (λ (z : Assertion). NeverTakenAt z.level q) h m) k))

    place : (f : Option Place) → IsFirstPlace (NeverTakenIn notes) f
        → IsFirstPlace (NeverTakenIn (notes ++ a ∷ [])) (Some (earlier_of f q))
    place None k = (
      new,
      λ r h b. either (which r h) (λ i. k r i)
          (λ e. before-not_itself q (subst (λ (z : Place). is_before z q ≡ true) (sym e) b)),
    )
    place (Some p) k = go (is_before q p) refl
      where
        go : (b : Bool) → is_before q p ≡ b
            → IsFirstPlace (NeverTakenIn (notes ++ a ∷ [])) (Some (cond b q p))
        go true e = (
          new,
          λ r h c. either (which r h) (λ i. k.1 r i (before-further r q p c e))
              (λ s. before-not_itself q (subst (λ (z : Place). is_before z q ≡ true) (sym s) c)),
        )
        go false e = (
          kept p k.0,
          λ r h c. either (which r h) (λ i. k.1 r i c)
              (λ s. let t : true ≡ false = sym (subst (λ (z : Place). is_before z p ≡ true) (sym s) c)
              ∙ e in absurd (cc)),
        )

-- what holds on the way
pub record IsNoted (notes : List Assertion) (first : Option Place) (orders : List Assertion) : Type 0 where
  pub place : IsFirstPlace (NeverTakenIn notes) first
  pub all : first ≡ None → AreOrdersOf notes orders

pub noted-none : IsNoted [] None []
noted-none = record { place = place-none; all = λ e. tt }

-- one more annotation that is determined
pub noted-ordered : (notes : List Assertion) (first : Option Place) (orders : List Assertion)
    (a o : Assertion)
    → Determined a.level → IsOrderOf a o → IsNoted notes first orders
    → IsNoted (notes ++ a ∷ []) first (orders ++ o ∷ [])
noted-ordered notes first orders a o d i n =
    record {
      place = place-determined notes first a d n.place;
      all = λ e. all_zipped_more IsOrderOf notes orders a o (n.all e) i;
    }

-- one more annotation with a conjunct that is never taken
pub noted-fault : (notes : List Assertion) (first : Option Place) (orders : List Assertion) (a : Assertion)
    (q : Place)
    → NeverTakenAt a.level q → IsNoted notes first orders
    → IsNoted (notes ++ a ∷ []) (Some (earlier_of first q)) orders
noted-fault notes first orders a q m n =
    record {
      place = place-fault notes first a q m n.place;
      all = λ e. absurd (let c : Some (earlier_of first q) ≡ None = e in cc);
    }

module _ {A O : Type 0} (f : A → Assertion) (g : O → Assertion) (notes : List A) (i : ℕ) (x : A)
    (h : i < length notes) (e : x ≡ get_or notes i x) where
  one-more : map f (take (i + 1) notes) ≡ map f (take i notes) ++ f x ∷ []
  one-more = map_more f notes i x h ∙ ap (λ z. map f (take i notes) ++ f z ∷ []) (sym e)

  -- one more annotation is in order
  pub read-ordered : (first now : Option Place) (orders : List O) (o : O) (longer : List O) → now ≡ first
      → longer ≡ orders ++ o ∷ [] → Determined (f x).level → IsOrderOf (f x) (g o)
      → IsNoted (map f (take i notes)) first (map g orders)
      → IsNoted (map f (take (i + 1) notes)) now (map g longer)
  read-ordered first now orders o longer same more d is n =
      subst (λ z. IsNoted (map f (take (i + 1) notes)) z (map g longer)) (sym same)
      (subst (λ z. IsNoted z first (map g longer)) (sym one-more)
      (subst (λ z. IsNoted (map f (take i notes) ++ f x ∷ []) first z)
      (sym (ap (map g) more ∙ map-append g orders (o ∷ [])))
      (noted-ordered (map f (take i notes)) first (map g orders) (f x) (g o) d is n)))

  -- one more annotation has a conjunct that is never taken
  pub read-fault : (first now : Option Place) (orders longer : List O) (q p : Place) → now ≡ Some p
      → p ≡ earlier_of first q → longer ≡ orders → NeverTakenAt (f x).level q
      → IsNoted (map f (take i notes)) first (map g orders)
      → IsNoted (map f (take (i + 1) notes)) now (map g longer)
  read-fault first now orders longer q p same earlier more m n =
      subst (λ z. IsNoted (map f (take (i + 1) notes)) z (map g longer)) (sym (same ∙ ap Some earlier))
      (subst (λ z. IsNoted z (Some (earlier_of first q)) (map g longer)) (sym one-more)
      (subst (λ z. IsNoted (map f (take i notes) ++ f x ∷ []) (Some (earlier_of first q)) (map g z))
      (sym more)
      (noted-fault (map f (take i notes)) first (map g orders) (f x) q m n)))

-- all annotations were gone through
pub noted-all : {A : Type 0} (f : A → Assertion) (notes : List A) (i : ℕ) (first : Option Place)
    (orders : List Assertion) (q : Place)
    → length notes ≤ i → IsNoted (map f (take i notes)) first orders → first ≡ Some q
    → IsFirstPlace (NeverTakenIn (map f notes)) (Some q)
noted-all f notes i first orders q h n e =
    subst (λ z. IsFirstPlace (NeverTakenIn z) (Some q)) (ap (map f) (take_all i notes h))
    (subst (λ z. IsFirstPlace (NeverTakenIn (map f (take i notes))) z) e n.place)
