-- Two lists of one length whose elements are related place by place (`AllZip`).
-- Names: `zip-LAW`. Std has `AllZip-long`, `all_zipped_more` in lemmas.Slice.Zip.
use Rattle.std.specs.Prelude.{◌≡◌, ℕ, zero, suc, ◌+◌, ◌<◌, List, [], ◌∷◌, ◌++◌, length, take, slice_get, slice_index_or, Some}
use Rattle.std.specs.List.{AllZip}
use Rattle.std.proofs.Common.{sym, ap, ◌∙◌, subst, subst₂, arith}
use Rattle.std.proofs.lemmas.List.{take_more}
use Rattle.std.proofs.lemmas.Option.{same_Some, none-some}
use Rattle.std.proofs.lemmas.Slice.Zip.{all_zipped_more}

-- the two elements at one place, as they are read
pub zip-read : {A B : Type 0} (R : A → B → Type 0) (xs : List A) (ys : List B) (i : ℕ) (x : A) (y : B) →
    AllZip R xs ys → i < length xs → x ≡ slice_index_or xs i x → y ≡ slice_index_or ys i y → R x y
zip-read R [] ys i x y a h e f = absurd (let none : i < 0 = h in omega arith)
zip-read R (z ∷ zs) [] i x y a h e f = absurd a
zip-read R (z ∷ zs) (w ∷ ws) zero x y a h e f = subst₂ R (sym e) (sym f) a.0
zip-read R (z ∷ zs) (w ∷ ws) (suc i) x y a h e f =
    zip-read R zs ws i x y a.1 (let below : suc i < suc (length zs) = h in omega arith) e f

-- the two elements that are at one place
pub zip-at : {A B : Type 0} (R : A → B → Type 0) (xs : List A) (ys : List B) (i : ℕ) (x : A) (y : B) →
    AllZip R xs ys → slice_get xs i ≡ Some x → slice_get ys i ≡ Some y → R x y
zip-at R [] ys i x y a e f = absurd (none-some x e)
zip-at R (z ∷ zs) [] i x y a e f = absurd a
zip-at R (z ∷ zs) (w ∷ ws) zero x y a e f = subst₂ R (same_Some z x e) (same_Some w y f) a.0
zip-at R (z ∷ zs) (w ∷ ws) (suc i) x y a e f = zip-at R zs ws i x y a.1 e f

-- what an element of the second list is related to
pub zip-right : {A B : Type 0} (R : A → B → Type 0) (xs : List A) (ys : List B) → AllZip R xs ys →
    (k : ℕ) (y : B) → slice_get ys k ≡ Some y → (x : A) × R x y
zip-right R xs [] z k y at = absurd (none-some y at)
zip-right R [] (b ∷ ys) z k y at = absurd z
zip-right R (a ∷ xs) (b ∷ ys) z zero y at = (a, subst (R a) (same_Some b y at) z.0)
zip-right R (a ∷ xs) (b ∷ ys) z (suc k) y at = zip-right R xs ys z.1 k y at

-- one more element of a list, and one that is related to it
pub zip-more : {A B : Type 0} (R : A → B → Type 0) (xs : List A) (ys : List B) (i : ℕ) (x : A) (y : B) →
    i < length xs → x ≡ slice_index_or xs i x → AllZip R (take i xs) ys → R x y
    → AllZip R (take (i + 1) xs) (ys ++ y ∷ [])
zip-more {A} R xs ys i x y h e a r =
    subst (λ (zs : List A). AllZip R zs (ys ++ y ∷ []))
    (sym (take_more xs i x h ∙ ap (λ (z : A). take i xs ++ z ∷ []) (sym e)))
    (all_zipped_more R (take i xs) ys x y a r)
