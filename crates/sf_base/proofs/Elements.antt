-- The elements of a list: which it contains, and what holds of all of them, of some or of each pair.
-- Names: `contains-LAW`, `all-LAW`, `any-LAW`, `pairs-LAW`, and `all_by-LAW` where `All` is by recursion; `cons_if` is
-- an element put before the others where a test is true. Std has more in lemmas.List.Elements.
use Rattle.std.specs.Prelude.{◌≡◌, ◌≢◌, ◌⊎◌, ◌↔◌, ℕ, zero, suc, ◌+◌, ◌-◌, ◌<◌, ◌≤◌, Bool, true, false, cond, List, [], ◌∷◌, ◌++◌, length, take, drop, replicate, get_or, Contains, All, AllPairs}
use Rattle.std.specs.Bool.{Decides}
use Rattle.std.specs.List.{list_any, insert, AllByRecursion}
use Rattle.std.proofs.Common.{inl, inr, refl, sym, ◌∙◌, subst, arith}
use Rattle.std.proofs.lemmas.Bool.{or_cases, or_left, or_right}
use Rattle.std.proofs.lemmas.Bool.Decides.{eqb_tells, leb_tells}
use Rattle.std.proofs.lemmas.List.{take-append-drop, get_or-replicate, length-replicate}
use Rattle.std.proofs.lemmas.List.Edits.{length-insert, get_or-insert_below, get_or-insert_at}
use Rattle.std.proofs.lemmas.List.Elements.{Contains-append_cases, Contains-append_left, Contains-append_right, Contains-push_cases, All-cons}
use Rattle.std.proofs.lemmas.List.Folds.{Any-from_list_any, list_any-from_Any}
use Rattle.std.proofs.lemmas.List.Kept.{AllPairs-cons}
use Rattle.sf_base.proofs.Lists.{insert-after}

-- nothing is among none
pub contains-nil : {A : Type 0} (x : A) → Contains [] x → ⊥
contains-nil x c = let none : c.0 < 0 = c.1 in omega arith

pub contains-none : {A : Type 0} (x : A) → Contains [] x ↔ ⊥
contains-none x = (contains-nil x, λ h. absurd h)

-- a list of two parts has what one of them has
pub contains-append : {A : Type 0} (xs ys : List A) (x : A) (P Q : Type 0) → (Contains xs x ↔ P)
    → (Contains ys x ↔ Q) → Contains (xs ++ ys) x ↔ (P ⊎ Q)
contains-append xs ys x P Q p q = (to, from)
  where
    to : Contains (xs ++ ys) x → P ⊎ Q
    to c = elim (Contains-append_cases xs ys x c) [ inl a ↦ inl (p.0 a) | inr b ↦ inr (q.0 b) ]

    from : P ⊎ Q → Contains (xs ++ ys) x
    from (inl a) = Contains-append_left xs ys x (p.1 a)
    from (inr b) = Contains-append_right xs ys x (q.1 b)

-- what is in a list of one is that one
pub contains-single : {A : Type 0} (x y : A) → Contains (x ∷ []) y → x ≡ y
contains-single x y c = elim (Contains-push_cases [] x y c) [ inl h ↦ absurd (contains-nil y h) | inr h ↦ h ]

-- and that one is
pub contains-single_of : {A : Type 0} (x y : A) → x ≡ y → Contains (x ∷ []) y
contains-single_of {A} x y e = subst (λ (z : A). Contains (x ∷ []) z) e (0, omega arith, refl)

-- the first element, or one of the rest
pub contains-cons : {A : Type 0} (x : A) (xs : List A) (y : A)
    → Contains (x ∷ xs) y ↔ ((x ≡ y) ⊎ Contains xs y)
contains-cons x xs y =
    contains-append (x ∷ []) xs y (x ≡ y) (Contains xs y) (contains-single x y, contains-single_of x y)
    (λ c. c, λ c. c)

-- one of the rest
pub contains-rest : {A : Type 0} (x : A) (xs : List A) (y : A) → Contains xs y → Contains (x ∷ xs) y
contains-rest x xs y h = (suc h.0, omega (arith, h.1), h.2)

-- a list that is there where a test is true
pub contains-cond : {A : Type 0} (b : Bool) (xs : List A) (x : A) (P Q : Type 0) → Decides b P
    → (Contains xs x ↔ Q) → Contains (cond b xs []) x ↔ (P × Q)
contains-cond true xs x P Q d q = (λ c. (d.0 refl, q.0 c), λ h. q.1 h.1)
contains-cond false xs x P Q d q =
    (λ c. absurd (contains-nil x c), λ h. absurd (let e : false ≡ true = d.1 h.0 in cc))

-- a list that is there unless a test is true
pub contains-unless : {A : Type 0} (b : Bool) (xs : List A) (x : A) → Contains (cond b [] xs) x
    → Contains xs x
contains-unless true xs x c = absurd (contains-nil x c)
contains-unless false xs x c = c

-- an element put first where a test is true
pub contains-cons_if : {A : Type 0} (b : Bool) (x y : A) (rest : List A)
    → Contains (cond b (x ∷ rest) rest) y → ((b ≡ true) × (x ≡ y)) ⊎ Contains rest y
contains-cons_if true x y rest c =
    elim (Contains-append_cases (x ∷ []) rest y c) [
      | inl h ↦ inl (refl, contains-single x y h)
      | inr h ↦ inr h
    ]
contains-cons_if false x y rest c = inr c

pub contains-cons_if_first : {A : Type 0} (b : Bool) (x y : A) (rest : List A) → b ≡ true → x ≡ y
    → Contains (cond b (x ∷ rest) rest) y
contains-cons_if_first true x y rest e same =
    Contains-append_left (x ∷ []) rest y (contains-single_of x y same)
contains-cons_if_first false x y rest e same = absurd (cc)

pub contains-cons_if_rest : {A : Type 0} (b : Bool) (x y : A) (rest : List A) → Contains rest y
    → Contains (cond b (x ∷ rest) rest) y
contains-cons_if_rest true x y rest c = Contains-append_right (x ∷ []) rest y c
contains-cons_if_rest false x y rest c = c

-- equal elements are all one
pub contains-replicate : {A : Type 0} (n : ℕ) (a x : A) → Contains (replicate n a) x → x ≡ a
contains-replicate n a x h =
    sym h.2
    ∙ get_or-replicate n h.0 a x (let k : h.0 < length (replicate n a) = h.1 in
    omega (arith, length-replicate n a))

-- what an insert leaves
pub contains-insert : {A : Type 0} (xs : List A) (i : ℕ) (x y : A)
    → Contains (insert xs i x) y ↔ (Contains xs y ⊎ Contains (x ∷ []) y)
contains-insert {A} xs i x y = (to, from)
  where
    to : Contains (insert xs i x) y → Contains xs y ⊎ Contains (x ∷ []) y
    to c = elim (Contains-append_cases (take i xs) (x ∷ drop i xs) y c) [
      | inl h ↦
          inl
          (subst (λ (zs : List A). Contains zs y) (take-append-drop i xs)
          (Contains-append_left (take i xs) (drop i xs) y h))
      | inr h ↦ elim (Contains-append_cases (x ∷ []) (drop i xs) y h) [
        | inl k ↦ inr k
        | inr k ↦
            inl
            (subst (λ (zs : List A). Contains zs y) (take-append-drop i xs)
            (Contains-append_right (take i xs) (drop i xs) y k))
      ]
    ]

    from : Contains xs y ⊎ Contains (x ∷ []) y → Contains (insert xs i x) y
    from (inl c) =
        elim
        (Contains-append_cases (take i xs) (drop i xs) y
        (subst (λ (zs : List A). Contains zs y) (sym (take-append-drop i xs)) c)) [
          | inl h ↦ Contains-append_left (take i xs) (x ∷ drop i xs) y h
          | inr h ↦
              Contains-append_right (take i xs) (x ∷ drop i xs) y
              (Contains-append_right (x ∷ []) (drop i xs) y h)
        ]
    from (inr c) =
        Contains-append_right (take i xs) (x ∷ drop i xs) y (Contains-append_left (x ∷ []) (drop i xs) y c)

-- a search by a test of equality decides it
pub contains-decides : {A : Type 0} (same : A → A → Bool) → ((x y : A) → Decides (same x y) (x ≡ y))
    → (xs : List A) (x : A) → Decides (list_any (λ y. same y x) xs) (Contains xs x)
contains-decides {A} same is xs x = (to, from)
  where
    to : list_any (λ y. same y x) xs ≡ true → Contains xs x
    to e =
        let a = Any-from_list_any (λ y. same y x) xs e in
        subst (λ (y : A). Contains xs y) ((is a.1 x).0 a.4) (a.0, a.2, a.3)

    from : Contains xs x → list_any (λ y. same y x) xs ≡ true
    from c = list_any-from_Any (λ y. same y x) xs (c.0, x, c.1, c.2, (is x x).1 refl)

-- an element that passes, such that each test which passes it passes some element of the list
pub any-some : {X : Type 0} (f : X → Bool) (xs : List X) → list_any f xs ≡ true
    → (x : X) × (f x ≡ true) × ((p : X → Bool) → p x ≡ true → list_any p xs ≡ true)
any-some f [] e = absurd (cc)
any-some f (x ∷ xs) e = elim (or_cases (f x) (list_any f xs) e) [
  | inl y ↦ (x, y, λ p q. or_left (p x) (list_any p xs) q)
  | inr y ↦ let r = any-some f xs y in (r.0, r.1, λ p q. or_right (p x) (list_any p xs) (r.2 p q))
]

-- what holds of an element that may be put first, and of the rest
pub all-cons_if : {A : Type 0} (b : Bool) (P : A → Type 0) (x : A) (rest : List A) → P x → All P rest
    → All P (cond b (x ∷ rest) rest)
all-cons_if true P x rest p h = All-cons P x rest p h
all-cons_if false P x rest p h = h

-- what holds of each element of two lists, by recursion
pub all_by-append : {X : Type 0} (P : X → Type 0) (xs ys : List X) → AllByRecursion P xs
    → AllByRecursion P ys → AllByRecursion P (xs ++ ys)
all_by-append P [] ys a b = b
all_by-append P (x ∷ xs) ys a b = (a.0, all_by-append P xs ys a.1 b)

-- the pairs with the first element, and those of the rest
pub pairs-head : {A : Type 0} (R : A → A → Type 0) (x : A) (xs : List A) → AllPairs R (x ∷ xs) → All (R x) xs
pairs-head R x xs h =
    λ j d below. h zero (suc j) d (omega arith) (let b : j < length xs = below in omega arith)

pub pairs-tail : {A : Type 0} (R : A → A → Type 0) (x : A) (xs : List A) → AllPairs R (x ∷ xs) → AllPairs R xs
pairs-tail R x xs h =
    λ i j d less below. h (suc i) (suc j) d (let l : i < j = less in omega arith)
    (let b : j < length xs = below in omega arith)

-- an element that may be put first
pub pairs-cons_if : {A : Type 0} (b : Bool) (R : A → A → Type 0) (x : A) (rest : List A) → All (R x) rest
    → AllPairs R rest → AllPairs R (cond b (x ∷ rest) rest)
pairs-cons_if true R x rest q h = AllPairs-cons R x rest q h
pairs-cons_if false R x rest q h = h

-- an element inserted between what may be before it and what may be after it
pub pairs-insert : {A : Type 0} (R : A → A → Type 0) (xs : List A) (i : ℕ) (x : A) → i ≤ length xs
    → AllPairs R xs
    → ((k : ℕ) (d : A) → k < i → R (get_or xs k d) x)
    → ((k : ℕ) (d : A) → i ≤ k → k < length xs → R x (get_or xs k d)) → AllPairs R (insert xs i x)
pairs-insert {A} R xs i x within pairs before after = λ j k d less below.
    let bound : k < length xs + 1 = let e = length-insert xs i x within in omega (arith, below, e) in
    elim (leb_tells k i) [
      | inl l ↦
          elim (eqb_tells k i) [
            | inl e ↦ at j k d less e.1
            | inr e ↦ low j k d less (let other : k ≢ i = e.1 in let le : k ≤ i = l.1 in omega arith)
          ]
      | inr l ↦ elim (leb_tells j i) [
        | inl m ↦
            elim (eqb_tells j i) [
              | inl e ↦ from j k d e.1 l.1 bound
              | inr e ↦
                  across j k d (let other : j ≢ i = e.1 in let le : j ≤ i = m.1 in omega arith) l.1 bound
            ]
        | inr m ↦ high j k d m.1 less bound
      ]
    ]
  where
    low : (j k : ℕ) (d : A) → j < k → k < i → R (get_or (insert xs i x) j d) (get_or (insert xs i x) k d)
    low j k d less l =
        rw (get_or-insert_below xs i x d j (omega arith) within, get_or-insert_below xs i x d k l within)
        (pairs j k d less (omega arith))

    at : (j k : ℕ) (d : A) → j < k → k ≡ i → R (get_or (insert xs i x) j d) (get_or (insert xs i x) k d)
    at j k d less e =
        rw (e, get_or-insert_below xs i x d j (omega arith) within, get_or-insert_at xs i x d within)
        (before j d (omega arith))

    from : (j k : ℕ) (d : A) → j ≡ i → i < k → k < length xs + 1
        → R (get_or (insert xs i x) j d) (get_or (insert xs i x) k d)
    from j k d e l bound =
        rw (e, get_or-insert_at xs i x d within, insert-after xs i k x d within l)
        (after (k - 1) d (omega arith) (omega arith))

    across : (j k : ℕ) (d : A) → j < i → i < k → k < length xs + 1
        → R (get_or (insert xs i x) j d) (get_or (insert xs i x) k d)
    across j k d m l bound =
        rw (get_or-insert_below xs i x d j m within, insert-after xs i k x d within l)
        (pairs j (k - 1) d (omega arith) (omega arith))

    high : (j k : ℕ) (d : A) → i < j → j < k → k < length xs + 1
        → R (get_or (insert xs i x) j d) (get_or (insert xs i x) k d)
    high j k d m less bound =
        rw (insert-after xs i j x d within m, insert-after xs i k x d within (omega arith))
        (pairs (j - 1) (k - 1) d (omega arith) (omega arith))
