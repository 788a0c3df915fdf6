-- Supplies: how often a number is among the units of parts, and what an event takes.
-- Names: `count-LAW` counts a number, `takes-LAW` speaks of the number that an event takes.
use Rattle.std.specs.Prelude.{◌≡◌, ◌≢◌, ◌⊎◌, ℕ, ◌+◌, ◌≤◌, ◌==◌, Bool, cond, true, false, List, [], ◌∷◌, ◌++◌, get_or, Contains}
use Rattle.std.specs.List.{count_by}
use Rattle.std.proofs.Common.{ap, ◌∙◌, refl, inl, inr, arith}
use Rattle.std.proofs.lemmas.Bool.Decides.{eqb_tells}
use Rattle.std.proofs.lemmas.List.Sums.{sum_by-append, sum_by-cons, get_or-le-sum_by}
use Rattle.sf_base.proofs.Elements.{contains-cons}
use Rattle.sf_base.proofs.HeapSplits.{at-self}
use Rattle.sf_core.specs.Machine.Whole.{Part, numbers, supplies}

-- what a test counts for
abbrev pub one_if : Bool → ℕ
one_if b = cond b 1 0

-- how often a number is in a list
abbrev pub times : ℕ → List ℕ → ℕ
times n ns = count_by (λ (m : ℕ). m == n) ns

pub count-append : (n : ℕ) (ms ns : List ℕ) → times n (ms ++ ns) ≡ times n ms + times n ns
count-append n ms ns = sum_by-append (λ (m : ℕ). cond (m == n) 1 0) ms ns

pub count-cons : (n m : ℕ) (ns : List ℕ) → times n (m ∷ ns) ≡ one_if (m == n) + times n ns
count-cons n m ns = sum_by-cons (λ (k : ℕ). cond (k == n) 1 0) m ns

-- a number that is there counts
pub count-contains : (n : ℕ) (ns : List ℕ) → Contains ns n → 1 ≤ times n ns
count-contains n ns (i, within, is) =
    let h = get_or-le-sum_by (λ (m : ℕ). cond (m == n) 1 0) ns i n within in
    let e : one_if (get_or ns i n == n) ≡ 1 = ap (λ z. one_if (z == n)) is
    ∙ ap one_if (at-self n) in
    omega arith

-- a number that counts is there
pub contains-count : (n : ℕ) (ns : List ℕ) → 1 ≤ times n ns → Contains ns n
contains-count n [] h = absurd (omega arith)
contains-count n (m ∷ ns) h = go (eqb_tells m n) (count-cons n m ns) (λ k. contains-count n ns k)
  where
    go : (((m == n) ≡ true) × (m ≡ n)) ⊎ (((m == n) ≡ false) × (m ≢ n))
        → times n (m ∷ ns) ≡ one_if (m == n) + times n ns → (1 ≤ times n ns → Contains ns n)
        → Contains (m ∷ ns) n
    go (inl e) sum more = (contains-cons m ns n).1 (inl e.1)
    go (inr e) sum more = (contains-cons m ns n).1 (inr (more (let k : one_if (m == n) ≡ 0 =
        ap one_if e.0 in omega arith)))

-- a part in the middle counts as one that comes first
pub count-focus : (n : ℕ) (before : List Part) (a : Part) (after : List Part)
    → times n (supplies (before ++ a ∷ after)) ≡ times n (supplies (a ∷ before ++ after))
count-focus n [] a after = refl
count-focus n (b ∷ before) a after =
    let e = count-focus n before a after in
    let p = count-append n (numbers b.supply) (supplies (before ++ a ∷ after)) in
    let q = count-append n (numbers a.supply) (supplies (b ∷ before ++ after)) in
    let r = count-append n (numbers b.supply) (supplies (before ++ after)) in
    let s = count-append n (numbers a.supply) (supplies (before ++ after)) in
    omega arith
