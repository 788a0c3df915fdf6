-- The longest prefix of a list whose elements pass a test.
-- Names: `prefix-LAW`; std has more of `prefix_len` in lemmas.List.Sums, by index.
use Rattle.std.specs.Prelude.{◌≡◌, suc, Bool, true, false, List, [], ◌∷◌, ◌++◌, take, drop}
use Rattle.std.specs.List.{prefix_len, list_all}
use Rattle.std.proofs.Common.{refl, subst}
use Rattle.std.proofs.Math.Numerals.{one-add}

-- an element that passes is one more
pub prefix-more : {X : Type 0} (p : X → Bool) (x : X) (xs : List X) → p x ≡ true
    → prefix_len p (x ∷ xs) ≡ suc (prefix_len p xs)
prefix-more p x xs e = rw e (one-add (prefix_len p xs))

-- before an element that fails nothing passes
pub prefix-none : {X : Type 0} (p : X → Bool) (x : X) (xs : List X) → p x ≡ false → prefix_len p (x ∷ xs) ≡ 0
prefix-none p x xs e = rw e refl

-- the prefix passes the test
pub prefix-passes : {X : Type 0} (p : X → Bool) (xs : List X) → list_all p (take (prefix_len p xs) xs) ≡ true
prefix-passes p [] = refl
prefix-passes p (x ∷ xs) = go (p x) refl (prefix-passes p xs)
  where
    go : (t : Bool) → p x ≡ t → list_all p (take (prefix_len p xs) xs) ≡ true
        → list_all p (take (prefix_len p (x ∷ xs)) (x ∷ xs)) ≡ true
    go true e h = rw (prefix-more p x xs e, e) h
    go false e h = rw (prefix-none p x xs e) refl

-- no longer one does
pub prefix-longest : {X : Type 0} (p : X → Bool) (xs : List X) (y : X) (more after : List X) →
    drop (prefix_len p xs) xs ≡ y ∷ (more ++ after) → list_all p (take (prefix_len p xs) xs ++ y ∷ more)
    ≡ false
prefix-longest p [] y more after h = absurd cc
prefix-longest p (x ∷ xs) y more after h = go (p x) refl (prefix-longest p xs y more after)
  where
    go : (t : Bool) → p x ≡ t
        → (drop (prefix_len p xs) xs ≡ y ∷ (more ++ after)
        → list_all p (take (prefix_len p xs) xs ++ y ∷ more) ≡ false) →
        list_all p (take (prefix_len p (x ∷ xs)) (x ∷ xs) ++ y ∷ more) ≡ false
    go true e f =
        let k : drop (prefix_len p xs) xs ≡ y ∷ (more ++ after) = rw (prefix-more p x xs e) at h in
        rw (prefix-more p x xs e, e) (f k)
    go false e f =
        let k : x ∷ xs ≡ y ∷ (more ++ after) = rw (prefix-none p x xs e) at h in
        let same : x ≡ y = cc in
        let fails : p y ≡ false = subst (λ z. p z ≡ false) same e in
        rw (prefix-none p x xs e, fails) refl
