-- Lists with one thing in the middle, and contents by resource.
-- Names: `has-LAW` speaks of what a list contains, `sum-LAW` of sums, `present-LAW` of the contents
-- that count.
use Rattle.std.specs.Prelude.{slice_index, ◌≤◌, ◌≡◌, ◌≢◌, ◌⊎◌, ◌+◌, ◌<◌, ℕ, zero, suc, List, [], ◌∷◌, ◌++◌, length, Option, Some, None, Contains}
use Rattle.std.specs.List.{sum_by}
use Rattle.std.proofs.Common.{replicate, lt_of_not-le, set, sym, ap, ◌∙◌, refl, subst, inl, inr, ⊎_elim, arith}
use Rattle.std.proofs.lemmas.List.{get_or-replicate, get_or_past, length-replicate}
use Rattle.std.proofs.lemmas.List.Elements.{Contains-append_cases, Contains-append_left, Contains-append_right, Contains-push, Contains-push_cases}
use Rattle.std.proofs.lemmas.List.Sums.{sum_by-append, sum_by-cons}
use native.Mathlib.Decide.{dec_le}
use mathlib.Core.Option.{some, some-injective, some-ne-none}
use lib.ListN.{get_elem?}
use Rattle.sf_part.specs.declared.content.Content.{Content}
use Rattle.sf_part.specs.Contents.{content_of}
use Rattle.sf_region.specs.Rule.{present}

-- a list at a place: what is before it and after it, whatever stands there
pub record Cut {A : Type 0} (l : List A) (i : ℕ) (a : A) : Type 0 where
  pub before : List A
  pub after : List A
  pub is : l ≡ before ++ a ∷ after
  pub sets : (b : A) → set l i b ≡ before ++ b ∷ after

module _ {A : Type 0} where
  pub cut : (l : List A) (i : ℕ) (a : A) → get_elem? l i ≡ some a → Cut l i a
  cut [] i a e = absurd (some-ne-none a (sym e))
  cut (x ∷ xs) zero a e = record {
    before = [];
    after = xs;
    is = ap (λ z. z ∷ xs) (some-injective x a e);
    sets = λ b. refl;
  }
  cut (x ∷ xs) (suc i) a e = let c = cut xs i a e in record {
    before = x ∷ c.before;
    after = c.after;
    is = ap (λ z. x ∷ z) c.is;
    sets = λ b. ap (λ z. x ∷ z) (c.sets b);
  }

  pub in_range : (l : List A) (i : ℕ) (a : A) → get_elem? l i ≡ some a → i < length l
  in_range [] i a e = absurd (some-ne-none a (sym e))
  in_range (x ∷ xs) zero a e = omega arith
  in_range (x ∷ xs) (suc i) a e = let h = in_range xs i a e in omega arith

  pub has-none : (x : A) → Contains [] x → ⊥
  has-none x (k, less, e) = absurd (omega arith)

  pub has-cases : (x y : A) (xs : List A) → Contains (x ∷ xs) y → (x ≡ y) ⊎ Contains xs y
  has-cases x y xs h = ⊎_elim
      (λ k. ⊎_elim (λ z. absurd (has-none y z)) (λ e. inl e) (Contains-push_cases [] x y k))
      (λ k. inr k) (Contains-append_cases (x ∷ []) xs y h)

  pub has-first : (x : A) (xs : List A) → Contains (x ∷ xs) x
  has-first x xs = Contains-append_left (x ∷ []) xs x (Contains-push [] x)

  pub has-later : (x y : A) (xs : List A) → Contains xs y → Contains (x ∷ xs) y
  has-later x y xs h = Contains-append_right (x ∷ []) xs y h

  -- the thing in the middle, and the others
  pub has-middle : (before after : List A) (x : A) → Contains (before ++ x ∷ after) x
  has-middle before after x = Contains-append_right before (x ∷ after) x (has-first x after)

  pub has-focus : (before after : List A) (x y : A) → Contains (before ++ x ∷ after) y
      → (x ≡ y) ⊎ Contains (before ++ after) y
  has-focus before after x y h = ⊎_elim
      (λ k. inr (Contains-append_left before after y k))
      (λ k. ⊎_elim (λ e. inl e) (λ j. inr (Contains-append_right before after y j))
      (has-cases x y after k))
      (Contains-append_cases before (x ∷ after) y h)

  pub has-unfocus : (before after : List A) (x y : A) → Contains (before ++ after) y
      → Contains (before ++ x ∷ after) y
  has-unfocus before after x y h = ⊎_elim
      (λ k. Contains-append_left before (x ∷ after) y k)
      (λ k. Contains-append_right before (x ∷ after) y (has-later x y after k))
      (Contains-append_cases before after y h)

  pub sum-focus : (f : A → ℕ) (before after : List A) (x : A)
      → sum_by f (before ++ x ∷ after) ≡ f x + sum_by f (before ++ after)
  sum-focus f before after x =
      let a = sum_by-append f before (x ∷ after) in
      let b = sum_by-cons f x after in
      let c = sum_by-append f before after in
      omega arith

pub at-has : {A : Type 0} (l : List A) (j : ℕ) (a : A) → get_elem? l j ≡ some a → Contains l a
at-has [] j a e = absurd (some-ne-none a (sym e))
at-has {A} (x ∷ l) zero a e = subst (λ (z : A). Contains (x ∷ l) z) (some-injective x a e)
    (has-first x l)
at-has (x ∷ l) (suc j) a e = has-later x a l (at-has l j a e)

-- another thing of a list stands before or after that place
pub others-at : {A : Type 0} (l : List A) (i : ℕ) (a : A) (e : get_elem? l i ≡ some a) (j : ℕ) (u
    : A)
    → j ≢ i → get_elem? l j ≡ some u
    → Contains ((cut l i a e).before ++ (cut l i a e).after) u
unfolding cut
others-at [] i a e j u ne g = absurd (some-ne-none a (sym e))
others-at (x ∷ l) zero a e zero u ne g = absurd (ne refl)
others-at (x ∷ l) zero a e (suc j) u ne g = at-has l j u g
others-at {A} (x ∷ l) (suc i) a e zero u ne g = subst
    (λ (z : A). Contains (x ∷ (cut l i a e).before ++ (cut l i a e).after) z)
    (some-injective x u g) (has-first x ((cut l i a e).before ++ (cut l i a e).after))
others-at (x ∷ l) (suc i) a e (suc j) u ne g = has-later x u
    ((cut l i a e).before ++ (cut l i a e).after)
    (others-at l i a e j u (λ f. ne (ap suc f)) g)

-- a list of zeros
pub zeros : (ws : List ℕ) (n : ℕ) → ws ≡ replicate n 0 → (i : ℕ) → slice_index ws i ≡ 0
zeros ws n e i = ap (λ (l : List ℕ). slice_index l i) e ∙ all n i
  where
    all : (n i : ℕ) → slice_index (replicate n 0) i ≡ 0
    all n i = elim (dec_le n i) [
      | yes h ↦ get_or_past (replicate n 0) i 0
          (subst (λ (k : ℕ). k ≤ i) (sym (length-replicate n 0)) h)
      | no h ↦ get_or-replicate n i 0 0 (lt_of_not-le h)
    ]

pub present-append : (xs ys : List (Option Content)) → present (xs ++ ys) ≡ present xs ++ present ys
present-append [] ys = refl
present-append (None ∷ xs) ys = present-append xs ys
present-append (Some k ∷ xs) ys = ap (λ z. (content_of k).content ∷ z) (present-append xs ys)

-- with a content at a place where there was none
pub present-with : (base : List (Option Content)) (i : ℕ) (k : Content) (c : Cut base i None)
    → present (set base i (Some k)) ≡ present c.before ++ (content_of k).content ∷ present c.after
present-with base i k c = ap present (c.sets (Some k)) ∙ present-append c.before (Some k ∷ c.after)

pub present-without : (base : List (Option Content)) (i : ℕ) (c : Cut base i None)
    → present base ≡ present c.before ++ present c.after
present-without base i c = ap present c.is ∙ present-append c.before (None ∷ c.after)
