-- Lists as wholes: the first element and the rest, what is appended, mapped, dropped, inserted.
-- Names: `WORD-LAW`, where WORD is `cons`, `append`, `drop`, `map`, `flat_map`, `insert` or `replicate`;
-- `more` is a loop's step.
-- Std has the laws of `take`, `drop`, `set`, `++` and `map` in lemmas.List.
use Rattle.std.specs.Prelude.{◌≡◌, ℕ, zero, suc, ◌+◌, ◌-◌, ◌<◌, ◌≤◌, List, [], ◌∷◌, ◌++◌, length, map, take, drop, replicate, get_or, slice_index_or}
use Rattle.std.specs.List.{flat_map, insert}
use Rattle.std.proofs.Common.{add-one, append_assoc, arith, refl, sym, ap, ◌∙◌}
use Rattle.std.proofs.Math.Seq.{drop-cons}
use Rattle.std.proofs.lemmas.List.{map-append, take_more}
use Rattle.std.proofs.lemmas.List.Edits.{get_or-insert_above}

-- lists of one first element and one rest are one
pub cons-same : {A : Type 0} (x y : A) (xs ys : List A) → x ≡ y → xs ≡ ys → x ∷ xs ≡ y ∷ ys
cons-same x y xs ys e f = cc

-- and the other way round
pub cons-parts : {A : Type 0} (x y : A) (xs ys : List A) → x ∷ xs ≡ y ∷ ys → (x ≡ y) × (xs ≡ ys)
cons-parts x y xs ys e = let f : x ≡ y = cc in let g : xs ≡ ys = cc in (f, g)

-- what was appended in two steps
pub append-two : {A : Type 0} (old middle new xs ys : List A) → middle ≡ old ++ xs → new ≡ middle ++ ys
    → new ≡ old ++ (xs ++ ys)
append-two old middle new xs ys e f = f ∙ ap (λ zs. zs ++ ys) e ∙ append_assoc old xs ys

-- and in three
pub append-three : {A : Type 0} (old first second new xs ys zs : List A) → first ≡ old ++ xs
    → second ≡ first ++ ys → new ≡ second ++ zs →
    new ≡ old ++ (xs ++ (ys ++ zs))
append-three old first second new xs ys zs e f g =
    append-two old first new xs (ys ++ zs) e (append-two first second new ys zs f g)

-- what is left of a mapped list begins with what the next element is mapped to
pub drop-map_more : {X Y : Type 0} (f : X → Y) (xs : List X) (k : ℕ) (x : X) → k < length xs
    → x ≡ get_or xs k x →
    drop k (map f xs) ≡ f x ∷ drop (suc k) (map f xs)
drop-map_more f [] k x l e = absurd (omega (arith, l))
drop-map_more f (y ∷ ys) zero x l e = ap (λ z. f z ∷ map f ys) (sym e)
drop-map_more f (y ∷ ys) (suc k) x l e =
    let below : k < length ys = omega (arith, l) in drop-map_more f ys k x below e

-- nothing is left of it at the end
pub drop-map_all : {X Y : Type 0} (f : X → Y) (xs : List X) (k : ℕ) → length xs ≤ k → drop k (map f xs) ≡ []
drop-map_all f [] zero l = refl
drop-map_all f [] (suc k) l = refl
drop-map_all f (x ∷ xs) zero l = absurd (omega (arith, l))
drop-map_all f (x ∷ xs) (suc k) l = let past : length xs ≤ k = omega (arith, l) in drop-map_all f xs k past

-- one more element was mapped
pub map-more : {A B : Type 0} (f : A → B) (xs ys : List A) (i : ℕ) (x : A) (done : List B) (y : B) →
    ys ≡ xs → i < length ys → x ≡ get_or ys i x → y ≡ f x → done ≡ map f (take i xs) → done ++ y ∷ []
    ≡ map f (take (i + 1) xs)
map-more {A} {B} f xs ys i x done y e below is new old =
    let inside : i < length xs = omega (arith, below, ap length e) in
    let here : get_or xs i x ≡ x = sym (is ∙ ap (λ (zs : List A). get_or zs i x) e) in
    let rest : map f (take (i + 1) xs) ≡ map f (take i xs) ++ f x ∷ [] =
    ap (map f) (take_more xs i x inside ∙ ap (λ (z : A). take i xs ++ z ∷ []) here)
    ∙ map-append f (take i xs) (x ∷ []) in
    ap (λ (zs : List B). zs ++ y ∷ []) old ∙ ap (λ (z : B). map f (take i xs) ++ z ∷ []) new ∙ sym rest

-- what one more element gives, and what those after it give
pub flat_map-more : {A B : Type 0} (f : A → List B) (xs : List A) (i : ℕ) (x : A)
    (before after whole : List B) →
    i < length xs → x ≡ slice_index_or xs i x → after ≡ before ++ f x →
    before ++ flat_map f (drop i xs) ≡ whole → after ++ flat_map f (drop (i + 1) xs) ≡ whole
flat_map-more f xs i x before after whole h e a w =
    let here : drop i xs ≡ x ∷ drop (suc i) xs = drop-cons xs i x h ∙ ap (λ y. y ∷ drop (suc i) xs) (sym e) in
    rw (a, add-one, append_assoc) (sym (ap (λ ys. before ++ flat_map f ys) here) ∙ w)

-- an element after the one that was inserted is one place further than it was
pub insert-after : {A : Type 0} (xs : List A) (i k : ℕ) (x d : A) → i ≤ length xs → i < k
    → get_or (insert xs i x) k d ≡ get_or xs (k - 1) d
insert-after {A} xs i k x d within l =
    let e : k ≡ k - 1 + 1 = omega arith in
    ap (λ (n : ℕ). get_or (insert xs i x) n d) e ∙ get_or-insert_above xs i x d (k - 1) (omega arith) within

-- equal elements, and the same past the end
pub replicate-default : {A : Type 0} (x : A) (n k : ℕ) → get_or (replicate n x) k x ≡ x
replicate-default x zero k = refl
replicate-default x (suc n) zero = refl
replicate-default x (suc n) (suc k) = replicate-default x n k
