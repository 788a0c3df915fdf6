-- How many elements pass a test (`count_by`).
-- Names: `count-LAW`; std has more in lemmas.List.Sums.
use Rattle.std.specs.Prelude.{◌≡◌, ◌≢◌, ◌⊎◌, ℕ, ◌+◌, ◌*◌, ◌<◌, ◌==◌, Bool, true, false, ◌||◌, cond, List, [], ◌∷◌, ◌++◌, replicate, Contains}
use Rattle.std.specs.List.{list_any, count_by}
use Rattle.std.proofs.Common.{inl, inr, refl, sym, ap, ◌∙◌, arith, zero-add}
use Rattle.std.proofs.lemmas.Bool.Decides.{eqb_tells}
use Rattle.std.proofs.lemmas.List.Elements.{Contains-append_right}
use Rattle.std.proofs.lemmas.List.Folds.{sum_by-replicate}
use Rattle.std.proofs.lemmas.List.Sums.{sum_by-append, sum_by-cons}

-- an element that fails doesn't count
pub count-skip : (b : Bool) (n : ℕ) → b ≡ false → cond b 1 0 + n ≡ n
count-skip true n e = absurd (cc)
count-skip false n e = zero-add n

-- no element counts where none passes
pub count-none : {X : Type 0} (p : X → Bool) (xs : List X) → list_any p xs ≡ false → count_by p xs ≡ 0
count-none p [] e = refl
count-none {X} p (x ∷ xs) e =
    go (p x) refl e (λ f. count-none p xs f) (sum_by-cons (λ (y : X). cond (p y) 1 0) x xs)
  where
    go : (b : Bool) → p x ≡ b → (b || list_any p xs) ≡ false → (list_any p xs ≡ false → count_by p xs ≡ 0) →
        count_by p (x ∷ xs) ≡ cond (p x) 1 0 + count_by p xs → count_by p (x ∷ xs) ≡ 0
    go true f e more sum = absurd (let c : true ≡ false = e in cc)
    go false f e more sum = sum ∙ count-skip (p x) (count_by p xs) f ∙ more e

-- a number that would pass isn't among numbers of which none passes
pub count-absent : (p : ℕ → Bool) (n : ℕ) → p n ≡ true → (xs : List ℕ) → list_any p xs ≡ false
    → count_by (λ m. m == n) xs ≡ 0
count-absent p n k [] e = refl
count-absent p n k (x ∷ xs) e =
    go (p x) refl e (λ f. count-absent p n k xs f) (sum_by-cons (λ (m : ℕ). cond (m == n) 1 0) x xs)
    (eqb_tells x n)
  where
    go : (b : Bool) → p x ≡ b → (b || list_any p xs) ≡ false
        → (list_any p xs ≡ false → count_by (λ m. m == n) xs ≡ 0) →
        count_by (λ m. m == n) (x ∷ xs) ≡ cond (x == n) 1 0 + count_by (λ m. m == n) xs →
        (((x == n) ≡ true) × (x ≡ n)) ⊎ (((x == n) ≡ false) × (x ≢ n)) → count_by (λ m. m == n) (x ∷ xs) ≡ 0
    go true f e more sum same = absurd (let c : true ≡ false = e in cc)
    go false f e more sum (inl s) = absurd (let c : true ≡ false = sym k ∙ ap p (sym s.1) ∙ f in cc)
    go false f e more sum (inr s) = sum ∙ count-skip (x == n) (count_by (λ m. m == n) xs) s.0 ∙ more e

-- a number isn't among smaller ones
pub count-below : (n : ℕ) (xs : List ℕ) → ((k : ℕ) → Contains xs k → k < n) → count_by (λ k. k == n) xs ≡ 0
count-below n [] a = refl
count-below n (x ∷ xs) a =
    go (eqb_tells x n) (sum_by-cons (λ (m : ℕ). cond (m == n) 1 0) x xs)
    (count-below n xs (λ k c. a k (Contains-append_right (x ∷ []) xs k c)))
  where
    go : (((x == n) ≡ true) × (x ≡ n)) ⊎ (((x == n) ≡ false) × (x ≢ n)) →
        count_by (λ k. k == n) (x ∷ xs) ≡ cond (x == n) 1 0 + count_by (λ k. k == n) xs →
        count_by (λ k. k == n) xs ≡ 0 → count_by (λ k. k == n) (x ∷ xs) ≡ 0
    go (inl s) sum rest = absurd (let h : x < n = a x (0, omega arith, refl) in omega arith)
    go (inr s) sum rest = sum ∙ count-skip (x == n) (count_by (λ k. k == n) xs) s.0 ∙ rest

-- a number appended some times counts as often
pub count-replicate : (xs : List ℕ) (c m n : ℕ)
    → count_by (λ k. k == n) (xs ++ replicate c m) ≡ count_by (λ k. k == n) xs + c * cond (m == n) 1 0
count-replicate xs c m n =
    sum_by-append (λ (k : ℕ). cond (k == n) 1 0) xs (replicate c m)
    ∙ ap (λ (i : ℕ). count_by (λ k. k == n) xs + i) (sum_by-replicate (λ (k : ℕ). cond (k == n) 1 0) c m)
