-- What a job lacks is nothing exactly where its conjunct can be taken.
-- Names: `in-LAW` speaks of numbers in a list, `job-LAW` of what a conjunct waits for.
use Rattle.std.proofs.Common.{◌≡◌, ◌⊎◌, ℕ, suc, ◌+◌, ◌≤◌, Bool, true, false, not, ◌&&◌, cond, List, [], ◌∷◌, ◌++◌, length, filter, count_by, Option, Some, None, is_some, refl, sym, ap, ◌∙◌, subst, inl, inr, arith}
use Rattle.std.proofs.lemmas.List.Sums.{sum_by-cons, count_by-le-length}
use Rattle.std.proofs.lemmas.Bool.{not-true, not_from_false}
use Rattle.sf_base.specs.declared.ids.FieldId.{FieldId}
use Rattle.sf_core.specs.declared.assertion.Operand.{Operand}
use Rattle.sf_core.specs.declared.assertion.Operand.TheVariants.{Known, Exists}
use Rattle.sf_core.specs.declared.assertion.Scope.{Scope}
use Rattle.sf_core.specs.declared.assertion.Test.{Test}
use Rattle.sf_core.specs.declared.assertion.Test.TheVariants.{True, Equal, Differ}
use Rattle.sf_base.proofs.Sums.{either}
use Rattle.sf_core.proofs.Assertions.Orders.{KnowsMore}
use Rattle.sf_core.specs.Assertions.Determined.{CanBeTaken, HasOrder, IsKnown, IsReady, branches, known_inside, plain}
use Rattle.sf_core.specs.Assertions.InOrder.{IsSupplied}
use Rattle.sf_core.specs.Assertions.Occurs.{OccursIn, OccursInAll, OccursInFields, OccursInOne, OccursInTest}
use Rattle.sf_core.specs.Assertions.Scopes.{is_made_by}
use Rattle.sf_core.specs.Program.Syntax.{Conjunct, holds, points, segment, doubly, tree, choose, Level, level, Conjuncts, none, also}
use Rattle.sf_precise.specs.Order.{IsOrderInside, IsOrderWithin}
use Rattle.sf_precise.specs.Checked.Outer.{existential, field_existentials, of_four, outer_of, outer_of_all, outer_of_level, test_existentials}
use Rattle.sf_precise.specs.Checked.Prepared.{IsPrepared}
use Rattle.sf_precise.specs.Checked.Waits.{need_of, unknown_among, waits_for}
use Rattle.sf_precise.specs.Checked.Lemmas.Greedy.{order-has, ready-plain, taken-supplied}

-- the number occurs in the list
abbrev pub In : List ℕ → ℕ → Type 0
In [] n = ⊥
In (m ∷ ms) n = (n ≡ m) ⊎ In ms n

in-left : (xs ys : List ℕ) (n : ℕ) → In xs n → In (xs ++ ys) n
in-left [] ys n i = absurd i
in-left (x ∷ xs) ys n (inl e) = inl e
in-left (x ∷ xs) ys n (inr i) = inr (in-left xs ys n i)

in-right : (xs ys : List ℕ) (n : ℕ) → In ys n → In (xs ++ ys) n
in-right [] ys n i = i
in-right (x ∷ xs) ys n i = inr (in-right xs ys n i)

in-which : (xs ys : List ℕ) (n : ℕ) → In (xs ++ ys) n → In xs n ⊎ In ys n
in-which [] ys n i = inr i
in-which (x ∷ xs) ys n (inl e) = inl (inl e)
in-which (x ∷ xs) ys n (inr i) = either (in-which xs ys n i) (λ j. inl (inr j)) (λ j. inr j)

in-filter : (p : ℕ → Bool) (xs : List ℕ) (n : ℕ) → In xs n → p n ≡ true → In (filter p xs) n
in-filter p [] n i e = absurd i
in-filter p (x ∷ xs) n (inl s) e = go (p x) (ap p (sym s) ∙ e)
  where
    go : (b : Bool) → b ≡ true → In (cond b (x ∷ filter p xs) (filter p xs)) n
    go true f = inl s
    go false f = absurd (let c : false ≡ true = f in cc)
in-filter p (x ∷ xs) n (inr i) e = go (p x) (in-filter p xs n i e)
  where
    go : (b : Bool) → In (filter p xs) n → In (cond b (x ∷ filter p xs) (filter p xs)) n
    go true j = inr j
    go false j = j

in-filtered : (p : ℕ → Bool) (xs : List ℕ) (n : ℕ) → In (filter p xs) n → In xs n × (p n ≡ true)
in-filtered p [] n i = absurd i
in-filtered p (x ∷ xs) n i = go (p x) refl i (λ j. in-filtered p xs n j)
  where
    go : (b : Bool) → p x ≡ b → In (cond b (x ∷ filter p xs) (filter p xs)) n
        → (In (filter p xs) n → In xs n × (p n ≡ true)) → In (x ∷ xs) n × (p n ≡ true)
    go true e (inl s) more = (inl s, ap p s ∙ e)
    go true e (inr j) more = (inr (more j).0, (more j).1)
    go false e j more = (inr (more j).0, (more j).1)

-- the existential of an operand
in-operand : {E : Type 0} (x : Operand E) (n : ℕ) → Exists n ≡ x → In (existential x) n
in-operand (Known e) n s = absurd (let c : Exists n ≡ Known e = s in cc)
in-operand (Exists m) n s = inl (let c : n ≡ m = cc in c)

operand-in : {E : Type 0} (x : Operand E) (n : ℕ) → In (existential x) n → Exists n ≡ x
operand-in (Known e) n i = absurd i
operand-in (Exists m) n (inl e) = ap Exists e
operand-in (Exists m) n (inr i) = absurd i

module _ {E : Type 0} where
  in-test : (t : Test (Operand E)) (n : ℕ) → OccursInTest t (Exists n) → In (test_existentials t) n
  in-test True n o = absurd o
  in-test (Equal x y) n (inl e) = in-left (existential x) (existential y) n (in-operand x n e)
  in-test (Equal x y) n (inr e) = in-right (existential x) (existential y) n (in-operand y n e)
  in-test (Differ x y) n (inl e) = in-left (existential x) (existential y) n (in-operand x n e)
  in-test (Differ x y) n (inr e) = in-right (existential x) (existential y) n (in-operand y n e)

  test-in : (t : Test (Operand E)) (n : ℕ) → In (test_existentials t) n → OccursInTest t (Exists n)
  test-in True n i = absurd i
  test-in (Equal x y) n i =
      either (in-which (existential x) (existential y) n i) (λ j. inl (operand-in x n j))
      (λ j. inr (operand-in y n j))
  test-in (Differ x y) n i =
      either (in-which (existential x) (existential y) n i) (λ j. inl (operand-in x n j))
      (λ j. inr (operand-in y n j))

  in-fields : (fs : List (FieldId × Operand E)) (n : ℕ) → OccursInFields fs (Exists n)
      → In (field_existentials fs) n
  in-fields [] n o = absurd o
  in-fields (f ∷ fs) n (inl e) = in-left (existential f.1) (field_existentials fs) n (in-operand f.1 n e)
  in-fields (f ∷ fs) n (inr o) = in-right (existential f.1) (field_existentials fs) n (in-fields fs n o)

  fields-in : (fs : List (FieldId × Operand E)) (n : ℕ) → In (field_existentials fs) n
      → OccursInFields fs (Exists n)
  fields-in [] n i = absurd i
  fields-in (f ∷ fs) n i =
      either (in-which (existential f.1) (field_existentials fs) n i) (λ j. inl (operand-in f.1 n j))
      (λ j. inr (fields-in fs n j))

  -- one of four operands
  in-four : (x b z y : Operand E) (n : ℕ) → (Exists n ≡ x) ⊎ ((Exists n ≡ b) ⊎ ((Exists n ≡ z) ⊎ (Exists n ≡ y)))
      → In (of_four x b z y) n
  in-four x b z y n (inl e) =
      in-left (existential x) (existential b ++ (existential z ++ existential y)) n (in-operand x n e)
  in-four x b z y n (inr (inl e)) =
      in-right (existential x) (existential b ++ (existential z ++ existential y)) n
      (in-left (existential b) (existential z ++ existential y) n (in-operand b n e))
  in-four x b z y n (inr (inr (inl e))) =
      in-right (existential x) (existential b ++ (existential z ++ existential y)) n
      (in-right (existential b) (existential z ++ existential y) n
      (in-left (existential z) (existential y) n (in-operand z n e)))
  in-four x b z y n (inr (inr (inr e))) =
      in-right (existential x) (existential b ++ (existential z ++ existential y)) n
      (in-right (existential b) (existential z ++ existential y) n
      (in-right (existential z) (existential y) n (in-operand y n e)))

  four-in : (x b z y : Operand E) (n : ℕ) → In (of_four x b z y) n
      → (Exists n ≡ x) ⊎ ((Exists n ≡ b) ⊎ ((Exists n ≡ z) ⊎ (Exists n ≡ y)))
  four-in x b z y n i =
      either (in-which (existential x) (existential b ++ (existential z ++ existential y)) n i)
      (λ j. inl (operand-in x n j))
      (λ i. either (in-which (existential b) (existential z ++ existential y) n i)
      (λ j. inr (inl (operand-in b n j)))
      (λ i. either (in-which (existential z) (existential y) n i) (λ j. inr (inr (inl (operand-in z n j))))
      (λ j. inr (inr (inr (operand-in y n j))))))

  mutual
    -- the existentials that occur are listed
    pub in-outer : (c : Conjunct E) (n : ℕ) → OccursInOne c (Exists n) → In (outer_of c) n
    in-outer (holds p t) n o = in-test t n o
    in-outer (points p x fs) n (inl e) = in-left (existential x) (field_existentials fs) n (in-operand x n e)
    in-outer (points p x fs) n (inr o) = in-right (existential x) (field_existentials fs) n (in-fields fs n o)
    in-outer (segment p next x y) n (inl e) = in-left (existential x) (existential y) n (in-operand x n e)
    in-outer (segment p next x y) n (inr e) = in-right (existential x) (existential y) n (in-operand y n e)
    in-outer (doubly p next back x b z y) n o = in-four x b z y n o
    in-outer (tree p left right x) n e = in-operand x n e
    in-outer (choose p t this that) n (inl o) =
        in-left (test_existentials t) (outer_of_level this ++ outer_of_level that) n (in-test t n o)
    in-outer (choose p t this that) n (inr (inl o)) =
        in-right (test_existentials t) (outer_of_level this ++ outer_of_level that) n
        (in-left (outer_of_level this) (outer_of_level that) n (in-outer_level this n o))
    in-outer (choose p t this that) n (inr (inr o)) =
        in-right (test_existentials t) (outer_of_level this ++ outer_of_level that) n
        (in-right (outer_of_level this) (outer_of_level that) n (in-outer_level that n o))

    in-outer_level : (a : Level E) (n : ℕ) → OccursIn a (Exists n) → In (outer_of_level a) n
    in-outer_level (level made cs) n o =
        in-filter (λ m. not (is_made_by made m)) (outer_of_all cs) n (in-outer_all cs n o.0)
        (not_from_false (is_made_by made n) o.1)

    in-outer_all : (cs : Conjuncts E) (n : ℕ) → OccursInAll cs (Exists n) → In (outer_of_all cs) n
    in-outer_all none n o = absurd o
    in-outer_all (also c cs) n (inl o) = in-left (outer_of c) (outer_of_all cs) n (in-outer c n o)
    in-outer_all (also c cs) n (inr o) = in-right (outer_of c) (outer_of_all cs) n (in-outer_all cs n o)

  mutual
    pub outer-in : (c : Conjunct E) (n : ℕ) → In (outer_of c) n → OccursInOne c (Exists n)
    outer-in (holds p t) n i = test-in t n i
    outer-in (points p x fs) n i =
        either (in-which (existential x) (field_existentials fs) n i) (λ j. inl (operand-in x n j))
        (λ j. inr (fields-in fs n j))
    outer-in (segment p next x y) n i =
        either (in-which (existential x) (existential y) n i) (λ j. inl (operand-in x n j))
        (λ j. inr (operand-in y n j))
    outer-in (doubly p next back x b z y) n i = four-in x b z y n i
    outer-in (tree p left right x) n i = operand-in x n i
    outer-in (choose p t this that) n i =
        either (in-which (test_existentials t) (outer_of_level this ++ outer_of_level that) n i)
        (λ j. inl (test-in t n j))
        (λ j. either (in-which (outer_of_level this) (outer_of_level that) n j)
        (λ k. inr (inl (outer_level-in this n k))) (λ k. inr (inr (outer_level-in that n k))))

    outer_level-in : (a : Level E) (n : ℕ) → In (outer_of_level a) n → OccursIn a (Exists n)
    outer_level-in (level made cs) n i =
        let j = in-filtered (λ m. not (is_made_by made m)) (outer_of_all cs) n i in
        (outer_all-in cs n j.0, not-true (is_made_by made n) j.1)

    outer_all-in : (cs : Conjuncts E) (n : ℕ) → In (outer_of_all cs) n → OccursInAll cs (Exists n)
    outer_all-in none n i = absurd i
    outer_all-in (also c cs) n i =
        either (in-which (outer_of c) (outer_of_all cs) n i) (λ j. inl (outer-in c n j))
        (λ j. inr (outer_all-in cs n j))

abbrev worth : Bool → ℕ
worth b = cond b 1 0

worth-one : (b : Bool) → b ≡ true → worth b ≡ 1
worth-one true e = refl
worth-one false e = absurd (let c : false ≡ true = e in cc)

-- as many are known as there are exactly where all are
count-all : (known : ℕ → Bool) (xs : List ℕ) → ((n : ℕ) → In xs n → known n ≡ true)
    → length xs ≤ count_by known xs
count-all known [] a = omega arith
count-all known (x ∷ xs) a =
    let here : known x ≡ true = a x (inl refl) in
    let rest : length xs ≤ count_by known xs = count-all known xs (λ n i. a n (inr i)) in
    let sum : count_by known (x ∷ xs) ≡ cond (known x) 1 0 + count_by known xs = sum_by-cons
    (λ y. cond (known y) 1 0) x xs in
    let one = worth-one (known x) here in
    omega arith

all-count : (known : ℕ → Bool) (xs : List ℕ) → length xs ≤ count_by known xs → (n : ℕ) → In xs n
    → known n ≡ true
all-count known [] h n i = absurd i
all-count known (x ∷ xs) h n i =
    go (known x) refl (sum_by-cons (λ y. cond (known y) 1 0) x xs) (count_by-le-length known xs) h i
    (λ k j. all-count known xs k n j)
  where
    go : (b : Bool) → known x ≡ b → count_by known (x ∷ xs) ≡ cond b 1 0 + count_by known xs
        → count_by known xs ≤ length xs → suc (length xs) ≤ count_by known (x ∷ xs) → In (x ∷ xs) n
        → (length xs ≤ count_by known xs → In xs n → known n ≡ true) → known n ≡ true
    go true e sum most k (inl s) more = ap known s ∙ e
    go true e sum most k (inr j) more = more (omega arith) j
    go false e sum most k j more = absurd (omega arith)

-- all of those on which it rests are known exactly where all are known that were not known at first
all-supplies : (start known : ℕ → Bool) (xs : List ℕ) → KnowsMore start known
    → ((n : ℕ) → In (unknown_among start xs) n → known n ≡ true) → (n : ℕ) → In xs n → known n ≡ true
all-supplies start known xs m a n i = go (start n) refl
  where
    go : (b : Bool) → start n ≡ b → known n ≡ true
    go true e = m n e
    go false e = a n (in-filter (λ k. not (start k)) xs n i (ap not e))

one-of_two : (p q : Bool) → 1 ≤ 0 + cond p 1 0 + cond q 1 0 → (p ≡ true) ⊎ (q ≡ true)
one-of_two true q h = inl refl
one-of_two false true h = inr refl
one-of_two false false h = absurd (omega arith)

two-one_of : (p q : Bool) → (p ≡ true) ⊎ (q ≡ true) → 1 ≤ 0 + cond p 1 0 + cond q 1 0
two-one_of true q h = omega arith
two-one_of false true h = omega arith
two-one_of false false (inl e) = absurd (let c : false ≡ true = e in cc)
two-one_of false false (inr e) = absurd (let c : false ≡ true = e in cc)

-- what a conjunct needs and has
abbrev pub IsEnough : {E : Type 0} → (start known : ℕ → Bool) → Conjunct E → Bool → Type 0
IsEnough start known c ordered = need_of start c ordered ≤ count_by known (waits_for start c)

enough-all : (start known : ℕ → Bool) (xs : List ℕ) (ordered : Bool) → KnowsMore start known
    → length (unknown_among start xs) + cond ordered 0 1 ≤ count_by known (unknown_among start xs) → (n : ℕ)
    → In xs n → known n ≡ true
enough-all start known xs ordered m h n i =
    all-supplies start known xs m
    (all-count known (unknown_among start xs)
    (let most = count_by-le-length known (unknown_among start xs) in omega arith)) n i

all-enough : (start known : ℕ → Bool) (xs : List ℕ) → ((n : ℕ) → In xs n → known n ≡ true)
    → length (unknown_among start xs) + 0 ≤ count_by known (unknown_among start xs)
all-enough start known xs a =
    let all =
    count-all known (unknown_among start xs) (λ n i. a n (in-filtered (λ k. not (start k)) xs n i).0) in
    omega arith

not-enough : (start known : ℕ → Bool) (xs : List ℕ)
    → length (unknown_among start xs) + 1 ≤ count_by known (unknown_among start xs) → ⊥
not-enough start known xs h = let most = count_by-le-length known (unknown_among start xs) in omega arith

module _ {E : Type 0} where
  operand-known : (known : ℕ → Bool) (x : Operand E) → ((n : ℕ) → In (existential x) n → known n ≡ true)
      → IsKnown known x
  operand-known known (Known e) a = tt
  operand-known known (Exists n) a = a n (inl refl)

  known-operand : (known : ℕ → Bool) (x : Operand E) → IsKnown known x → (n : ℕ) → In (existential x) n
      → known n ≡ true
  known-operand known (Known e) k n i = absurd i
  known-operand known (Exists m) k n (inl e) = ap known e ∙ k
  known-operand known (Exists m) k n (inr i) = absurd i

  known-both : (known : ℕ → Bool) (x y : Operand E) → IsKnown known x → IsKnown known y → (n : ℕ)
      → In (existential x ++ existential y) n → known n ≡ true
  known-both known x y k l n i =
      either (in-which (existential x) (existential y) n i) (known-operand known x k n)
      (known-operand known y l n)

  both-known : (known : ℕ → Bool) (x y : Operand E)
      → ((n : ℕ) → In (existential x ++ existential y) n → known n ≡ true)
      → IsKnown known x × IsKnown known y
  both-known known x y a = (
    operand-known known x (λ n i. a n (in-left (existential x) (existential y) n i)),
    operand-known known
        y (λ n i. a n (in-right (existential x) (existential y) n i)),
  )

  known-four : (known : ℕ → Bool) (x b z y : Operand E)
      → IsKnown known x × IsKnown known b × IsKnown known z × IsKnown known y → (n : ℕ)
      → In (of_four x b z y) n → known n ≡ true
  known-four known x b z y k n i =
      either (in-which (existential x) (existential b ++ (existential z ++ existential y)) n i)
      (known-operand known x k.0 n)
      (λ i. either (in-which (existential b) (existential z ++ existential y) n i) (known-operand known b k.1 n)
      (λ i. known-both known z y k.2 k.3 n i))

  four-known : (known : ℕ → Bool) (x b z y : Operand E) → ((n : ℕ) → In (of_four x b z y) n → known n ≡ true)
      → IsKnown known x × IsKnown known b × IsKnown known z × IsKnown known y
  four-known known x b z y a =
      let rest : (n : ℕ) → In (existential b ++ (existential z ++ existential y)) n → known n ≡ true =
      λ n i. a n (in-right (existential x) (existential b ++ (existential z ++ existential y)) n i) in
      let ends : IsKnown known z × IsKnown known y = both-known known z y
      (λ n i. rest n (in-right (existential b) (existential z ++ existential y) n i)) in (
        operand-known known x
            (λ n i. a n (in-left (existential x) (existential b ++ (existential z ++ existential y)) n i)),
        operand-known known b
            (λ n i. rest n (in-left (existential b) (existential z ++ existential y) n i)),
        ends.0,
        ends.1,
      )

  -- an equality has enough exactly where one of its sides is known
  equal-known : (start known : ℕ → Bool) → KnowsMore start known
      → (p : _) (x y : Operand E) (ordered : Bool) → IsEnough start known (holds p (Equal x y)) ordered
      → IsKnown known x ⊎ IsKnown known y
  equal-known start known m p (Known e) y ordered h = inl tt
  equal-known start known m p (Exists k) (Known e) ordered h = inr tt
  equal-known start known m p (Exists k) (Exists n) ordered h = go (start k) (start n) refl refl h
    where
      go : (a b : Bool) → start k ≡ a → start n ≡ b
          → cond (not a && not b) 1 0 ≤ count_by known
          (cond (not a) (k ∷ cond (not b) (n ∷ []) []) (cond (not b) (n ∷ []) []))
          → (known k ≡ true) ⊎ (known n ≡ true)
      go true b e f h = inl (m k e)
      go false true e f h = inr (m n f)
      go false false e f h = one-of_two (known k) (known n) h

  known-equal : (start known : ℕ → Bool) (p : _) (x y : Operand E) (ordered : Bool)
      → IsKnown known x ⊎ IsKnown known y → IsEnough start known (holds p (Equal x y)) ordered
  known-equal start known p (Known e) y ordered h = omega arith
  known-equal start known p (Exists k) (Known e) ordered h = go (start k)
    where
      go : (a : Bool) → cond (not a && false) 1 0 ≤ count_by known (cond (not a) (k ∷ []) [])
      go true = omega arith
      go false = omega arith
  known-equal start known p (Exists k) (Exists n) ordered h = go (start k) (start n)
    where
      go : (a b : Bool)
          → cond (not a && not b) 1 0 ≤ count_by known
          (cond (not a) (k ∷ cond (not b) (n ∷ []) []) (cond (not b) (n ∷ []) []))
      go true b = omega arith
      go false true = omega arith
      go false false = two-one_of (known k) (known n) h

  inside-has : (known : ℕ → Bool) (made : Scope) (cs : Conjuncts E) (o : Level E)
      → IsOrderInside known (level made cs) o → HasOrder (known_inside made known) cs
  inside-has known made cs (level a os) i =
      let same : made ≡ a = let e : level made cs ≡ level a i.0 = i.1 in cc in
      let these : cs ≡ i.0 = let e : level made cs ≡ level a i.0 = i.1 in cc in
      subst (λ (z : Scope). HasOrder (known_inside z known) cs) (sym same)
      (subst (λ z. HasOrder (known_inside a known) z) (sym these)
      (order-has (known_inside a known) i.0 os i.2))

  inside-taken : (known : ℕ → Bool) (p : _) (t : _) (this that these those : Level E)
      → IsOrderInside known this these → IsOrderInside known that those
      → IsSupplied known (choose p t this that) → CanBeTaken known (choose p t this that)
  inside-taken known p t (level made cs) (level other ds) these those i j s =
      branches p t made other cs ds refl s (inside-has known made cs these i)
      (inside-has known other ds those j)

  -- a prepared choice can be taken where all is supplied
  choice-taken : (known : ℕ → Bool) (p : _) (t : _) (this that : Level E) (o : Conjunct E)
      → IsOrderWithin known (choose p t this that) o → IsSupplied known (choose p t this that)
      → CanBeTaken known (choose p t this that)
  choice-taken known p t this that (holds q u) w s =
      absurd (let c : choose p t this that ≡ holds q u = w in cc)
  choice-taken known p t this that (points q x fs) w s =
      absurd (let c : choose p t this that ≡ points q x fs = w in cc)
  choice-taken known p t this that (segment q next x y) w s =
      absurd (let c : choose p t this that ≡ segment q next x y = w in cc)
  choice-taken known p t this that (doubly q next back x b z y) w s =
      absurd (let c : choose p t this that ≡ doubly q next back x b z y = w in cc)
  choice-taken known p t this that (tree q left right x) w s =
      absurd (let c : choose p t this that ≡ tree q left right x = w in cc)
  choice-taken known p t this that (choose q u these those) w s =
      let one : this ≡ w.0 = cc in
      let two : that ≡ w.1 = cc in
      inside-taken known p t this that these those (subst (λ z. IsOrderInside known z these) (sym one) w.3)
      (subst (λ z. IsOrderInside known z those) (sym two) w.4) s

  -- what has enough can be taken
  pub job-ready : (start known : ℕ → Bool) → KnowsMore start known
      → (c : Conjunct E) (o : Option (Conjunct E)) → IsPrepared c o → IsEnough start known c (is_some o)
      → CanBeTaken known c
  job-ready start known m (holds p True) o i h = plain tt
  job-ready start known m (holds p (Equal x y)) o i h = plain (equal-known start known m p x y (is_some o) h)
  job-ready start known m (holds p (Differ x y)) o i h =
      plain (both-known known x y (enough-all start known (existential x ++ existential y) (is_some o) m h))
  job-ready start known m (points p x fs) o i h =
      plain (operand-known known x (enough-all start known (existential x) (is_some o) m h))
  job-ready start known m (segment p next x y) o i h =
      plain (both-known known x y (enough-all start known (existential x ++ existential y) (is_some o) m h))
  job-ready start known m (doubly p next back x b z y) o i h =
      plain (four-known known x b z y (enough-all start known (of_four x b z y) (is_some o) m h))
  job-ready start known m (tree p left right x) o i h =
      plain (operand-known known x (enough-all start known (existential x) (is_some o) m h))
  job-ready start known m (choose p t this that) None i h =
      absurd (not-enough start known (outer_of (choose p t this that)) h)
  job-ready start known m (choose p t this that) (Some o) i h =
      let supplied : IsSupplied known (choose p t this that) = λ n j. enough-all start known
      (outer_of (choose p t this that)) true m h n (in-outer (choose p t this that) n j) in
      choice-taken known p t this that o (i known supplied) supplied

  -- what can be taken has enough
  pub ready-job : (start known : ℕ → Bool) (c : Conjunct E) (o : Option (Conjunct E)) → IsPrepared c o
      → CanBeTaken known c → IsEnough start known c (is_some o)
  ready-job start known c None i f = absurd (i known f)
  ready-job start known (holds p True) (Some o) i f = all-enough start known [] (λ n j. absurd j)
  ready-job start known (holds p (Equal x y)) (Some o) i f =
      known-equal start known p x y true (ready-plain known (holds p (Equal x y)) f (λ q t this that e. cc))
  ready-job start known (holds p (Differ x y)) (Some o) i f =
      let r : IsReady known (holds p (Differ x y)) = ready-plain known (holds p (Differ x y)) f
      (λ q t this that e. cc) in
      all-enough start known (existential x ++ existential y) (known-both known x y r.0 r.1)
  ready-job start known (points p x fs) (Some o) i f =
      all-enough start known (existential x)
      (known-operand known x (ready-plain known (points p x fs) f (λ q t this that e. cc)))
  ready-job start known (segment p next x y) (Some o) i f =
      let r : IsReady known (segment p next x y) = ready-plain known (segment p next x y) f
      (λ q t this that e. cc) in
      all-enough start known (existential x ++ existential y) (known-both known x y r.0 r.1)
  ready-job start known (doubly p next back x b z y) (Some o) i f =
      all-enough start known (of_four x b z y)
      (known-four known x b z y (ready-plain known (doubly p next back x b z y) f (λ q t this that e. cc)))
  ready-job start known (tree p left right x) (Some o) i f =
      all-enough start known (existential x)
      (known-operand known x (ready-plain known (tree p left right x) f (λ q t this that e. cc)))
  ready-job start known (choose p t this that) (Some o) i f =
      let supplied = taken-supplied known (choose p t this that) p t this that refl f in
      all-enough start known (outer_of (choose p t this that))
      (λ n j. supplied n (outer-in (choose p t this that) n j))

  -- a conjunct without branches is itself in order
  within-plain : (known more : ℕ → Bool) (c o : Conjunct E)
      → ((p : _) (t : _) (this that : Level E) → c ≡ choose p t this that → ⊥) → IsOrderWithin known c o
      → IsOrderWithin more c o
  within-plain known more c (holds p t) n w = w
  within-plain known more c (points p x fs) n w = w
  within-plain known more c (segment p next x y) n w = w
  within-plain known more c (doubly p next back x b z y) n w = w
  within-plain known more c (tree p left right x) n w = w
  within-plain known more c (choose p t this that) n w = absurd (n p t w.0 w.1 w.2)

  -- what is prepared and can be taken is in order inside
  pub prepared-within : (known : ℕ → Bool) (c o : Conjunct E) → IsPrepared c (Some o) → CanBeTaken known c
      → IsOrderWithin known c o
  prepared-within known (choose p t this that) o i f =
      i known (taken-supplied known (choose p t this that) p t this that refl f)
  prepared-within known (holds p t) o i f =
      within-plain (λ n. true) known (holds p t) o (λ q u this that e. cc) (i (λ n. true) (λ n j. refl))
  prepared-within known (points p x fs) o i f =
      within-plain (λ n. true) known (points p x fs) o (λ q u this that e. cc) (i (λ n. true) (λ n j. refl))
  prepared-within known (segment p next x y) o i f =
      within-plain (λ n. true) known (segment p next x y) o (λ q u this that e. cc)
      (i (λ n. true) (λ n j. refl))
  prepared-within known (doubly p next back x b z y) o i f =
      within-plain (λ n. true) known (doubly p next back x b z y) o (λ q u this that e. cc)
      (i (λ n. true) (λ n j. refl))
  prepared-within known (tree p left right x) o i f =
      within-plain (λ n. true) known (tree p left right x) o (λ q u this that e. cc)
      (i (λ n. true) (λ n j. refl))
