-- That two logs which weigh the same, however entries are weighed, are one but for their order.
-- Names: `same-WHAT` of a test whether two are one; `weights-permute` of logs.
use Rattle.std.specs.Prelude.{◌≡◌, ◌<◌, ℕ, Bool, true, false, cond, ◌==◌, List, [], ◌∷◌, ◌++◌}
use Rattle.std.specs.List.{sum_by}
use Rattle.std.specs.List.Sorted.{IsPermutation}
use Rattle.std.proofs.Common.{true≢false, sym, ap, refl, subst, arith}
use Rattle.std.proofs.lemmas.Bool.{eq-eqb, eqb-true}
use Rattle.std.proofs.lemmas.List.Sorted.{IsPermutation-cons, IsPermutation-middle, IsPermutation-refl, IsPermutation-sym, IsPermutation-trans}
use Rattle.std.proofs.lemmas.List.Sums.{sum_by-append, sum_by-cons}
use Rattle.sf_base.specs.declared.path.Turn.TheVariants.{Left as left, Right as right}
use Rattle.sf_core.specs.Machine.Config.{Path}
use Rattle.sf_core.specs.Machine.Whole.{same_path}
use Rattle.sf_part.specs.Timed.{Stamped}

module _ {A : Type 0} (same : A → A → Bool) (is : (x y : A) → same x y ≡ true → x ≡ y)
    (self : (x : A) → same x x ≡ true) where
  -- one, if it is that
  abbrev ones : A → A → ℕ
  ones x z = cond (same x z) 1 0

  split-at : (x : A) (ys : List A) → 0 < sum_by (ones x) ys
      → (before : List A) × (after : List A) × (ys ≡ before ++ x ∷ after)
  split-at x [] h = absurd (omega (arith, h))
  split-at x (y ∷ ys) h = go (same x y) refl (split-at x ys)
    where
      go : (b : Bool) → same x y ≡ b
          → (0 < sum_by (ones x) ys
          → (before : List A) × (after : List A) × (ys ≡ before ++ x ∷ after))
          → (before : List A) × (after : List A) × (y ∷ ys ≡ before ++ x ∷ after)
      go true e more = ([], ys, ap (λ z. z ∷ ys) (sym (is x y e)))
      go false e more =
          let all = sum_by-cons (ones x) y ys in
          let none : ones x y ≡ 0 = ap (λ b. cond b 1 0) e in
          let r = more (omega (arith, h, all, none)) in
          (y ∷ r.0, r.1, ap (λ z. y ∷ z) r.2)

  permute : (xs ys : List A) → ((weigh : A → ℕ) → sum_by weigh xs ≡ sum_by weigh ys)
      → IsPermutation xs ys
  permute [] [] h = IsPermutation-refl []
  permute [] (y ∷ ys) h =
      let all = sum_by-cons (λ (_ : A). 1) y ys in
      let e = h (λ _. 1) in
      absurd (omega (arith, all, e))
  permute (x ∷ xs) ys h =
      let one : ones x x ≡ 1 = ap (λ b. cond b 1 0) (self x) in
      let first = sum_by-cons (ones x) x xs in
      let equal = h (ones x) in
      let r = split-at x ys (omega (arith, one, first, equal)) in
      let rest = permute xs (r.0 ++ r.1) (λ v.
      let a = h v in
      let b = ap (sum_by v) r.2 in
      let c = sum_by-append v r.0 (x ∷ r.1) in
      let d = sum_by-cons v x r.1 in
      let e = sum_by-cons v x xs in
      let f = sum_by-append v r.0 r.1 in
      omega (arith, a, b, c, d, e, f)) in
      IsPermutation-trans (x ∷ xs) (x ∷ (r.0 ++ r.1)) ys
      (IsPermutation-cons x xs (r.0 ++ r.1) rest)
      (subst (λ z. IsPermutation (x ∷ (r.0 ++ r.1)) z) (sym r.2)
      (IsPermutation-sym (r.0 ++ x ∷ r.1) (x ∷ (r.0 ++ r.1)) (IsPermutation-middle r.0 x r.1)))

-- paths that the test takes for one are one
same-path : (path other : Path) → same_path path other ≡ true → path ≡ other
same-path [] [] e = refl
same-path [] (turn ∷ other) e = absurd (true≢false (sym e))
same-path (turn ∷ path) [] e = absurd (true≢false (sym e))
same-path (left ∷ path) (left ∷ other) e = ap (λ z. left ∷ z) (same-path path other e)
same-path (left ∷ path) (right ∷ other) e = absurd (true≢false (sym e))
same-path (right ∷ path) (left ∷ other) e = absurd (true≢false (sym e))
same-path (right ∷ path) (right ∷ other) e = ap (λ z. right ∷ z) (same-path path other e)

same-path_self : (path : Path) → same_path path path ≡ true
same-path_self [] = refl
same-path_self (left ∷ path) = same-path_self path
same-path_self (right ∷ path) = same-path_self path

-- so are entries
abbrev same_entry : Stamped → Stamped → Bool
same_entry x y = cond (x.stamp == y.stamp)
    (cond (x.number == y.number) (same_path x.task y.task) false) false

same-entry : (x y : Stamped) → same_entry x y ≡ true → x ≡ y
same-entry x y e = go (x.stamp == y.stamp) (x.number == y.number) refl refl e
  where
    go : (b c : Bool) → (x.stamp == y.stamp) ≡ b → (x.number == y.number) ≡ c
        → cond b (cond c (same_path x.task y.task) false) false ≡ true → x ≡ y
    go true true i j k =
        let stamp = eqb-true x.stamp y.stamp i in
        let number = eqb-true x.number y.number j in
        let task = same-path x.task y.task k in
        λ l. record { stamp = stamp l; task = task l; number = number l }
    go true false i j k = absurd (true≢false (sym k))
    go false c i j k = absurd (true≢false (sym k))

same-entry_self : (x : Stamped) → same_entry x x ≡ true
same-entry_self x =
    let stamp : (x.stamp == x.stamp) ≡ true = eq-eqb x.stamp x.stamp refl in
    let number : (x.number == x.number) ≡ true = eq-eqb x.number x.number refl in
    subst (λ z. cond z (cond (x.number == x.number) (same_path x.task x.task) false) false ≡ true)
    (sym stamp)
    (subst (λ z. cond z (same_path x.task x.task) false ≡ true) (sym number)
    (same-path_self x.task))

-- two logs of the same weights are one but for their order
pub weights-permute : (xs ys : List Stamped)
    → ((weigh : Stamped → ℕ) → sum_by weigh xs ≡ sum_by weigh ys) → IsPermutation xs ys
weights-permute xs ys h = permute same_entry same-entry same-entry_self xs ys h
