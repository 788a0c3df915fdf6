-- The order of things, and which of the code's things are one.
-- Names: `thing-LAW` of the order, `same-LAW` of being one.
use Rattle.std.specs.Prelude.{◌≡◌, ◌⊎◌, ℕ, ◌==◌, ◌&&◌, ◌||◌, nat_lt, Bool, true, false}
use Rattle.std.proofs.Common.{true≢false, sym, ap, ap₂, refl, inl, inr, arith}
use Rattle.std.proofs.lemmas.Bool.{cases_lt}
use Rattle.std.proofs.lemmas.Bool.Decides.{nat_tests}
use Rattle.sf_base.specs.declared.ids.Thing.{Thing as CodeThing}
use Rattle.sf_base.specs.declared.ids.Thing.TheVariants.{Shared, Own, At}
use Rattle.sf_base.specs.HeapStore.{Slot, shared, own}
use Rattle.sf_core.specs.Machine.Enabled.{Thing, variable, cell}
use Rattle.sf_machine.specs.Accessing.{thing_of}
use Rattle.sf_replay.specs.Checked.Looks.{same_thing}
use Rattle.sf_replay.specs.Order.{slot_before, thing_before}

-- pairs of numbers
lex-self : (a i : ℕ) → (nat_lt a a || ((a == a) && nat_lt i i)) ≡ true → ⊥
lex-self a i h = grind (arith, nat_tests)

lex-through : (a i b j d k : ℕ) → (nat_lt a b || ((a == b) && nat_lt i j)) ≡ true
    → (nat_lt b d || ((b == d) && nat_lt j k)) ≡ true → (nat_lt a d || ((a == d) && nat_lt i k)) ≡ true
lex-through a i b j d k h g = grind (arith, nat_tests)

slot-self : (s : Slot) → slot_before s s ≡ true → ⊥
slot-self (shared r i) h = lex-self r.0 i h
slot-self (own e i) h = lex-self e i h

slot-through : (s t u : Slot) → slot_before s t ≡ true → slot_before t u ≡ true → slot_before s u ≡ true
slot-through (shared r i) (shared s j) (shared t k) h g = lex-through r.0 i s.0 j t.0 k h g
slot-through (shared r i) (shared s j) (own t k) h g = refl
slot-through (shared r i) (own s j) (shared t k) h g = absurd (true≢false (sym g))
slot-through (shared r i) (own s j) (own t k) h g = refl
slot-through (own r i) (shared s j) u h g = absurd (true≢false (sym h))
slot-through (own r i) (own s j) (shared t k) h g = absurd (true≢false (sym g))
slot-through (own r i) (own s j) (own t k) h g = lex-through r i s j t k h g

-- no thing comes before itself
pub thing-self : (t : Thing) → thing_before t t ≡ true → ⊥
thing-self (variable s) h = slot-self s h
thing-self (cell l) h = grind (arith, nat_tests)

-- what comes before what comes before another does too
pub thing-through : (s t u : Thing) → thing_before s t ≡ true → thing_before t u ≡ true → thing_before s u ≡ true
thing-through (variable s) (variable t) (variable u) h g = slot-through s t u h g
thing-through (variable s) (variable t) (cell u) h g = refl
thing-through (variable s) (cell t) (variable u) h g = absurd (true≢false (sym g))
thing-through (variable s) (cell t) (cell u) h g = refl
thing-through (cell s) (variable t) u h g = absurd (true≢false (sym h))
thing-through (cell s) (cell t) (variable u) h g = absurd (true≢false (sym g))
thing-through (cell s) (cell t) (cell u) h g = grind (arith, nat_tests)

both-true : (a b : Bool) → (a && b) ≡ true → (a ≡ true) × (b ≡ true)
both-true true b h = (refl, h)
both-true false b h = absurd (true≢false (sym h))

equal-true : (a b : ℕ) → (a == b) ≡ true → b ≡ a
equal-true a b h = grind (arith, nat_tests)

-- things of the code that are one
pub same-true : (x y : CodeThing) → same_thing y x ≡ true → thing_of x ≡ thing_of y
same-true (Shared r i) (Shared s j) h =
    let k = both-true (s.0 == r.0) (j == i) h in
    ap₂ (λ (a : ℕ) (b : ℕ). variable (shared (record { 0 = a }) b)) (equal-true s.0 r.0 k.0) (equal-true j i k.1)
same-true (Shared r i) (Own t) h = absurd (true≢false (sym h))
same-true (Shared r i) (At m) h = absurd (true≢false (sym h))
same-true (Own s) (Shared r j) h = absurd (true≢false (sym h))
same-true (Own s) (Own t) h =
    let k = both-true (t.event == s.event) (t.index == s.index) h in
    ap₂ (λ (a : ℕ) (b : ℕ). variable (own a b)) (equal-true t.event s.event k.0) (equal-true t.index s.index k.1)
same-true (Own s) (At m) h = absurd (true≢false (sym h))
same-true (At l) (Shared r j) h = absurd (true≢false (sym h))
same-true (At l) (Own t) h = absurd (true≢false (sym h))
same-true (At l) (At m) h = ap cell (equal-true m l h)

abbrev slot_event : Thing → ℕ
slot_event (variable (shared r i)) = r.0
slot_event (variable (own e i)) = e
slot_event (cell l) = l

abbrev slot_index : Thing → ℕ
slot_index (variable (shared r i)) = i
slot_index (variable (own e i)) = i
slot_index (cell l) = 0

abbrev kind_of : Thing → ℕ
kind_of (variable (shared r i)) = 0
kind_of (variable (own e i)) = 1
kind_of (cell l) = 2

-- things of the code that aren't one
pub same-false : (x y : CodeThing) → same_thing y x ≡ false → thing_of x ≡ thing_of y → ⊥
same-false (Shared r i) (Shared s j) h e =
    let a : r.0 ≡ s.0 = ap slot_event e in
    let b : i ≡ j = ap slot_index e in
    grind (arith, nat_tests)
same-false (Shared r i) (Own t) h e = let k : 0 ≡ 1 = ap kind_of e in absurd (omega (arith, k))
same-false (Shared r i) (At m) h e = let k : 0 ≡ 2 = ap kind_of e in absurd (omega (arith, k))
same-false (Own s) (Shared r j) h e = let k : 1 ≡ 0 = ap kind_of e in absurd (omega (arith, k))
same-false (Own s) (Own t) h e =
    let a : s.event ≡ t.event = ap slot_event e in
    let b : s.index ≡ t.index = ap slot_index e in
    grind (arith, nat_tests)
same-false (Own s) (At m) h e = let k : 1 ≡ 2 = ap kind_of e in absurd (omega (arith, k))
same-false (At l) (Shared r j) h e = let k : 2 ≡ 0 = ap kind_of e in absurd (omega (arith, k))
same-false (At l) (Own t) h e = let k : 2 ≡ 1 = ap kind_of e in absurd (omega (arith, k))
same-false (At l) (At m) h e =
    let a : l ≡ m = ap slot_event e in
    grind (arith, nat_tests)

-- of two pairs of numbers that aren't one, one comes first
lex-either : (a i b j : ℕ) → ((a ≡ b) × (i ≡ j)) ⊎ (((nat_lt a b || ((a == b) && nat_lt i j)) ≡ true)
    ⊎ ((nat_lt b a || ((b == a) && nat_lt j i)) ≡ true))
lex-either a i b j = elim (cases_lt a b) [
  | inl h ↦ inr (inl (grind (arith, nat_tests)))
  | inr k ↦ elim (cases_lt b a) [
    | inl h ↦ inr (inr (grind (arith, nat_tests)))
    | inr l ↦
        let e : a ≡ b = omega (arith, k, l) in
        elim (cases_lt i j) [
          | inl h ↦ inr (inl (grind (arith, nat_tests)))
          | inr m ↦ elim (cases_lt j i) [
            | inl h ↦ inr (inr (grind (arith, nat_tests)))
            | inr n ↦ let f : i ≡ j = omega (arith, m, n) in inl (e, f)
          ]
        ]
  ]
]

-- of two things that aren't one, one comes first
pub thing-either : (s t : Thing) → (s ≡ t) ⊎ ((thing_before s t ≡ true) ⊎ (thing_before t s ≡ true))
thing-either (variable (shared r i)) (variable (shared s j)) = elim (lex-either r.0 i s.0 j) [
  | inl e ↦ inl (ap₂ (λ (a : ℕ) (b : ℕ). variable (shared (record { 0 = a }) b)) e.0 e.1)
  | inr h ↦ inr h
]
thing-either (variable (shared r i)) (variable (own f j)) = inr (inl refl)
thing-either (variable (own e i)) (variable (shared s j)) = inr (inr refl)
thing-either (variable (own e i)) (variable (own f j)) = elim (lex-either e i f j) [
  | inl e ↦ inl (ap₂ (λ (a : ℕ) (b : ℕ). variable (own a b)) e.0 e.1)
  | inr h ↦ inr h
]
thing-either (variable s) (cell m) = inr (inl refl)
thing-either (cell l) (variable t) = inr (inr refl)
thing-either (cell l) (cell m) = elim (cases_lt l m) [
  | inl h ↦ inr (inl (grind (arith, nat_tests)))
  | inr k ↦ elim (cases_lt m l) [
    | inl h ↦ inr (inr (grind (arith, nat_tests)))
    | inr n ↦ let e : l ≡ m = omega (arith, k, n) in inl (ap cell e)
  ]
]

-- things of the code that stand for one are one
pub thing-same : (x y : CodeThing) → thing_of x ≡ thing_of y → x ≡ y
thing-same (Shared r i) (Shared s j) e =
    ap₂ (λ (a : ℕ) (b : ℕ). Shared (record { 0 = a }) b) (ap slot_event e) (ap slot_index e)
thing-same (Shared r i) (Own t) e = let k : 0 ≡ 1 = ap kind_of e in absurd (omega (arith, k))
thing-same (Shared r i) (At m) e = let k : 0 ≡ 2 = ap kind_of e in absurd (omega (arith, k))
thing-same (Own s) (Shared r j) e = let k : 1 ≡ 0 = ap kind_of e in absurd (omega (arith, k))
thing-same (Own s) (Own t) e =
    ap₂ (λ (a : ℕ) (b : ℕ). Own (record { event = a; index = b })) (ap slot_event e) (ap slot_index e)
thing-same (Own s) (At m) e = let k : 1 ≡ 2 = ap kind_of e in absurd (omega (arith, k))
thing-same (At l) (Shared r j) e = let k : 2 ≡ 0 = ap kind_of e in absurd (omega (arith, k))
thing-same (At l) (Own t) e = let k : 2 ≡ 1 = ap kind_of e in absurd (omega (arith, k))
thing-same (At l) (At m) e = ap At (ap slot_event e)
