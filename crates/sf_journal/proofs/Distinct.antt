-- Events with different numbers: how often a number is theirs, and that their order is one of different events.
-- Names: `distinct-LAW` of events no two of which have one number.
use Rattle.std.specs.Prelude.{◌≡◌, ◌⊎◌, ◌==◌, ◌+◌, ◌≤◌, ℕ, Bool, true, false, cond, List, [], ◌∷◌, Contains, IsPermutation}
use Rattle.std.specs.List.{sum_by}
use Rattle.std.proofs.Common.{inl, inr, refl, sym, ap, ◌∙◌, subst, arith}
use Rattle.std.proofs.lemmas.List.Sorted.{sum_by-IsPermutation}
use Rattle.std.proofs.lemmas.List.Sums.{sum_by-cons}
use Rattle.sf_base.proofs.Elements.{contains-nil, contains-cons}
use Rattle.sf_base.proofs.HeapSplits.{at-same, at-self}
use Rattle.sf_core.specs.Checked.Machine.Laws.{HasNumber, AreDistinct}
use Rattle.sf_core.specs.Machine.Step.{Event}
use Rattle.sf_trace.specs.Trace.{Act, events_in}
use Rattle.sf_journal.proofs.Orders.{IsOnce}

-- one for an event of that number, and none for others
abbrev pub is_number : ℕ → Event → ℕ
is_number n event = cond (event.number == n) 1 0

-- a number is that of one of the events or of none
number-or_not : (events : List Event) (n : ℕ) → HasNumber events n ⊎ (sum_by (is_number n) events ≡ 0)
number-or_not [] n = inr refl
number-or_not (event ∷ events) n = go (number-or_not events n) (event.number == n) refl
  where
    go : HasNumber events n ⊎ (sum_by (is_number n) events ≡ 0) → (b : Bool) → (event.number == n) ≡ b
        → HasNumber (event ∷ events) n ⊎ (sum_by (is_number n) (event ∷ events) ≡ 0)
    go k true e = inl (inl (sym (at-same n event.number e)))
    go (inl h) false e = inl (inr h)
    go (inr h) false e =
        let all = sum_by-cons (is_number n) event events in
        let none : is_number n event ≡ 0 = ap (λ b. cond {A = ℕ} b 1 0) e in
        inr (omega arith)

-- where it is that of one it counts
number-counts : (events : List Event) (n : ℕ) → HasNumber events n → 1 ≤ sum_by (is_number n) events
number-counts [] n h = absurd h
number-counts (event ∷ events) n (inl e) =
    let all = sum_by-cons (is_number n) event events in
    let one : is_number n event ≡ 1 =
    ap (λ b. cond {A = ℕ} b 1 0) (ap (λ z. event.number == z) e ∙ at-self event.number) in
    omega arith
number-counts (event ∷ events) n (inr h) =
    let all = sum_by-cons (is_number n) event events in
    let more = number-counts events n h in
    omega arith

-- no number counts twice
pub distinct-once : (events : List Event) → AreDistinct events → (n : ℕ) → sum_by (is_number n) events ≤ 1
distinct-once [] h n = omega arith
distinct-once (event ∷ events) h n =
    let all = sum_by-cons (is_number n) event events in
    let most : sum_by (is_number n) events ≤ 1 = distinct-once events h.1 n in
    go all most (event.number == n) refl
  where
    go : sum_by (is_number n) (event ∷ events) ≡ is_number n event + sum_by (is_number n) events
        → sum_by (is_number n) events ≤ 1 → (b : Bool) → (event.number == n) ≡ b
        → sum_by (is_number n) (event ∷ events) ≤ 1
    go all most false e =
        let none : is_number n event ≡ 0 = ap (λ b. cond {A = ℕ} b 1 0) e in omega arith
    go all most true e = elim (number-or_not events n) [
      | inl k ↦ absurd (h.0 (subst (HasNumber events) (sym (at-same n event.number e)) k))
      | inr k ↦ let one : is_number n event ≡ 1 = ap (λ b. cond {A = ℕ} b 1 0) e in omega arith
    ]

-- and where none does the numbers are different
pub once-distinct : (events : List Event) → ((n : ℕ) → sum_by (is_number n) events ≤ 1) → AreDistinct events
once-distinct [] h = tt
once-distinct (event ∷ events) h = (
  λ k.
      let all = sum_by-cons (is_number event.number) event events in
      let more = number-counts events event.number k in
      let most = h event.number in
      let one : is_number event.number event ≡ 1 = ap (λ b. cond {A = ℕ} b 1 0) (at-self event.number) in
      absurd (omega arith),
  once-distinct events (λ n.
      let all = sum_by-cons (is_number n) event events in
      let most = h n in
      omega arith),
)

-- the same events in another order have different numbers too
pub distinct-permuted : (events others : List Event) → IsPermutation events others → AreDistinct events
    → AreDistinct others
distinct-permuted events others same h = once-distinct others (λ n.
    let is = sum_by-IsPermutation (is_number n) events others same in
    let most = distinct-once events h n in
    omega arith)

-- Acts
-- an act's number is one of the events'
pub act-number : (acts : List Act) (a : Act) → Contains acts a → HasNumber (events_in acts) a.event.number
act-number [] a h = absurd (contains-nil a h)
act-number (b ∷ acts) a h = elim ((contains-cons b acts a).0 h) [
  | inl e ↦ inl (ap (λ (z : Act). z.event.number) (sym e))
  | inr k ↦ inr (act-number acts a k)
]

-- acts with different numbers stand once in their list
pub distinct-acts : (acts : List Act) → AreDistinct (events_in acts) → IsOnce acts
distinct-acts [] h = tt
distinct-acts (a ∷ acts) h = (λ k. h.0 (act-number acts a k), distinct-acts acts h.1)

-- acts of one number are one
pub distinct-same : (acts : List Act) (a b : Act) → AreDistinct (events_in acts) → Contains acts a → Contains acts b
    → a.event.number ≡ b.event.number → a ≡ b
distinct-same [] a b h k l e = absurd (contains-nil a k)
distinct-same (c ∷ acts) a b h k l e = elim ((contains-cons c acts a).0 k) [
  | inl f ↦ elim ((contains-cons c acts b).0 l) [
    | inl g ↦ sym f ∙ g
    | inr m ↦ absurd (h.0 (subst (HasNumber (events_in acts)) (sym e ∙ ap (λ (z : Act). z.event.number) (sym f))
        (act-number acts b m)))
  ]
  | inr m ↦ elim ((contains-cons c acts b).0 l) [
    | inl g ↦ absurd (h.0 (subst (HasNumber (events_in acts)) (e ∙ ap (λ (z : Act). z.event.number) (sym g))
        (act-number acts a m)))
    | inr n ↦ distinct-same acts a b h.1 m n e
  ]
]
