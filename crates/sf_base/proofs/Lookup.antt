-- The element at a place of a list, if there is one (`slice_get`), and a search from the first element on.
-- Names: `get-LAW`; `push` is one more element at the end. Std has more in lemmas.Option.
use Rattle.std.specs.Prelude.{◌≡◌, ◌≢◌, ◌⊎◌, ℕ, zero, suc, ◌+◌, ◌<◌, ◌≤◌, Bool, true, false, List, [], ◌∷◌, ◌++◌, length, replicate, map, set, get_or, slice_get, slice_index_or, Some}
use Rattle.std.specs.Option.{option_map}
use Rattle.std.proofs.Common.{inl, inr, refl, sym, ap, ◌∙◌, below_more, arith}
use Rattle.std.proofs.lemmas.List.{get_or-set_other, get_or-set_same, length-set}
use Rattle.std.proofs.lemmas.Option.{slice_get_within, slice_get_read, slice_get-map, slice_get-get_or, slice_get_cases, slice_get_past, none-some, same_Some}
use Rattle.sf_base.proofs.Sums.{either}

-- what a loop over ys, which are xs, reads at i
pub get-read : {A : Type 0} (xs ys : List A) (i : ℕ) (x : A) → ys ≡ xs → i < length ys
    → x ≡ slice_index_or ys i x → slice_get xs i ≡ Some x
get-read xs ys i x e within is =
    slice_get_read xs (length ys) i x (ap length e) within (is ∙ ap (λ zs. slice_index_or zs i x) e)

-- the same, seen through f
pub get-read_map : {A B : Type 0} (f : A → B) (xs ys : List A) (i : ℕ) (x : A) →
    ys ≡ xs → i < length ys → x ≡ slice_index_or ys i x → slice_get (map f xs) i ≡ Some (f x)
get-read_map f xs ys i x e within is =
    slice_get-map f xs i ∙ ap (option_map f) (get-read xs ys i x e within is)

-- one more element was passed, which is another
pub get-none_more : {A : Type 0} (xs : List A) (x y : A) (i : ℕ) → slice_get xs i ≡ Some x → (x ≡ y → ⊥) →
    ((k : ℕ) → k < i → slice_get xs k ≢ Some y) → (k : ℕ) → k < i + 1 → slice_get xs k ≢ Some y
get-none_more {A} xs x y i here other before =
    below_more (λ k. slice_get xs k ≢ Some y) i before (λ e. let same : Some x ≡ Some y = sym here ∙ e in
    let eq : x ≡ y = cc in other eq)

-- all were passed
pub get-none_all : {A : Type 0} (xs : List A) (y : A) (i : ℕ) → length xs ≤ i →
    ((k : ℕ) → k < i → slice_get xs k ≢ Some y) → (k : ℕ) → slice_get xs k ≢ Some y
get-none_all xs y i past before k e =
    let within : k < length xs = slice_get_within xs k y e in before k (omega arith) e

-- what is in a list of one
pub get-single : {A : Type 0} (x y : A) (n : ℕ) → slice_get (x ∷ []) n ≡ Some y → (n ≡ 0) × (x ≡ y)
get-single x y zero e = (refl, cc)
get-single x y (suc n) e = absurd (none-some y e)

-- equal elements are all one
pub get-replicate : {A : Type 0} (x y : A) (n k : ℕ) → slice_get (replicate n x) k ≡ Some y → x ≡ y
get-replicate x y zero k e = absurd (none-some y e)
get-replicate x y (suc n) zero e = same_Some x y e
get-replicate x y (suc n) (suc k) e = get-replicate x y n k e

-- where `true` is read and past the end it would be `false`, `true` is there
pub get-true : (bs : List Bool) (k : ℕ) → get_or bs k false ≡ true → slice_get bs k ≡ Some true
get-true [] k e = absurd (cc)
get-true (b ∷ bs) zero e = ap Some e
get-true (b ∷ bs) (suc k) e = get-true bs k e

-- with one more element at the end: what was there before
pub get-push_before : {A : Type 0} (xs : List A) (x : A) (k : ℕ) → k < length xs
    → slice_get (xs ++ x ∷ []) k ≡ slice_get xs k
get-push_before [] x k h = absurd (omega arith)
get-push_before (y ∷ xs) x zero h = refl
get-push_before (y ∷ xs) x (suc k) h = get-push_before xs x k (omega arith)

-- the last one
pub get-push_last : {A : Type 0} (xs : List A) (x : A) → slice_get (xs ++ x ∷ []) (length xs) ≡ Some x
get-push_last [] x = refl
get-push_last (y ∷ xs) x = get-push_last xs x

-- what isn't the last one was there before
pub get-push_other : {A : Type 0} (xs : List A) (x y : A) (k : ℕ) → slice_get (xs ++ x ∷ []) k ≡ Some y
    → x ≢ y → slice_get xs k ≡ Some y
get-push_other [] x y zero e apart = absurd (let same : x ≡ y = cc in apart same)
get-push_other [] x y (suc k) e apart = absurd cc
get-push_other (z ∷ xs) x y zero e apart = e
get-push_other (z ∷ xs) x y (suc k) e apart = get-push_other xs x y k e apart

-- it was there before, or it is the last one
pub get-push_cases : {A : Type 0} (xs : List A) (y : A) (i : ℕ) (x : A) →
    slice_get (xs ++ y ∷ []) i ≡ Some x → (slice_get xs i ≡ Some x) ⊎ ((i ≡ length xs) × (y ≡ x))
get-push_cases [] y zero x e = inr (refl, let same : y ≡ x = cc in same)
get-push_cases [] y (suc i) x e = absurd (none-some x e)
get-push_cases (z ∷ zs) y zero x e = inl e
get-push_cases (z ∷ zs) y (suc i) x e =
    either (get-push_cases zs y i x e) (λ h. inl h) (λ h. inr (ap suc h.0, h.1))

-- an element between others
pub get-middle : {A : Type 0} (xs ys : List A) (x : A) → slice_get ((xs ++ x ∷ []) ++ ys) (length xs) ≡ Some x
get-middle [] ys x = refl
get-middle (z ∷ xs) ys x = get-middle xs ys x

-- what was written
pub get-set_same : {A : Type 0} (xs : List A) (i : ℕ) (v : A) → i < length xs
    → slice_get (set xs i v) i ≡ Some v
get-set_same xs i v h =
    slice_get-get_or (set xs i v) i v (rw length-set h) ∙ ap Some (get_or-set_same xs i v v h)

-- what was not written
pub get-set_other : {A : Type 0} (xs : List A) (i k : ℕ) (v : A) → k ≢ i
    → slice_get (set xs i v) k ≡ slice_get xs k
get-set_other {A} xs i k v other = elim (slice_get_cases xs k).1 [
  | inl x ↦
      slice_get-get_or (set xs i v) k x.0 (rw length-set x.1)
      ∙ ap Some (get_or-set_other xs i k v x.0 other ∙ x.3) ∙ sym x.2
  | inr x ↦ slice_get_past (set xs i v) k (rw length-set x.0) ∙ sym x.1
]
