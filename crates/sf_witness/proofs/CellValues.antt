-- The cells that lists of values are.
-- Names: `cell-CHANGE`.
use Rattle.std.proofs.Common.{◌≡◌, ◌≢◌, ◌<◌, ◌==◌, ℕ, zero, suc, ◌⊎◌, cond, List, [], ◌∷◌, ◌++◌, length, get_or, set, sym, ap, ◌∙◌, refl, inl, inr}
use Rattle.std.proofs.lemmas.Bool.{cases_eq}
use Rattle.std.proofs.lemmas.List.{get_or-set_other, get_or-set_same}
use Rattle.sf_base.specs.declared.value.Value.{Value}
use Rattle.sf_base.specs.declared.value.Value.TheVariants.{Nil as nil}
use Rattle.sf_base.specs.HeapStore.{put_field}
use Rattle.sf_base.proofs.HeapSplits.{at-other, at-self}
use Rattle.sf_heap.specs.Cells.{cell_of}

-- one more nil changes nothing
pub cell-longer : (xs : List Value) → cell_of (xs ++ nil ∷ []) ≡ cell_of xs
cell-longer xs = λ i n. at xs n i
  where
    at : (ys : List Value) (n : ℕ) → get_or (ys ++ nil ∷ []) n nil ≡ get_or ys n nil
    at [] zero = refl
    at [] (suc n) = refl
    at (y ∷ ys) zero = refl
    at (y ∷ ys) (suc n) = at ys n

-- a value that is put there is put into the field
pub cell-put : (xs : List Value) (f : ℕ) (v : Value) → f < length xs
    → cell_of (set xs f v) ≡ put_field (cell_of xs) f v
cell-put xs f v h = λ i n. at n (cases_eq n f) i
  where
    at : (n : ℕ) → (n ≡ f) ⊎ (n ≢ f) → get_or (set xs f v) n nil ≡ cond (n == f) v (get_or xs n nil)
    at n (inl e) =
        ap (λ k. get_or (set xs f v) k nil) e ∙ get_or-set_same xs f v nil h
        ∙ sym (ap (λ b. cond b v (get_or xs n nil)) (ap (λ k. k == f) e ∙ at-self f))
    at n (inr m) =
        get_or-set_other xs f n v nil m ∙ sym (ap (λ b. cond b v (get_or xs n nil)) (at-other f n m))
