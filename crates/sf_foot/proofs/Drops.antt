-- What is left of a list in the middle of a loop.
-- Names: `drop-LAW`.
use Rattle.std.proofs.Common.{◌≡◌, ◌<◌, ◌≤◌, ℕ, ◌+◌, List, [], ◌∷◌, length, drop, get_or, add-one, sym, subst}
use Rattle.std.proofs.Math.Seq.{drop-cons}
use Rattle.std.proofs.Math.ListN.{drop_of_length-le}

-- the next one, and those after it
pub drop-next : {A : Type 0} (P : List A → Type 0) (xs : List A) (i : ℕ) (d : A) → i < length xs
    → P (drop i xs) → P (get_or xs i d ∷ drop (i + 1) xs)
drop-next P xs i d h p = rw add-one (subst P (drop-cons xs i d h) p)

-- none is left
pub drop-none : {A : Type 0} (P : List A → Type 0) (xs : List A) (i : ℕ) → length xs ≤ i → P (drop i xs) → P []
drop-none P xs i h p = subst P (drop_of_length-le xs h) p

-- the same, where the next one has a name
pub drop-item : {A : Type 0} (P : List A → Type 0) (xs : List A) (i : ℕ) (x : A) → i < length xs
    → x ≡ get_or xs i x → P (drop i xs) → P (x ∷ drop (i + 1) xs)
drop-item P xs i x h e p = subst (λ y. P (y ∷ drop (i + 1) xs)) (sym e) (drop-next P xs i x h p)
