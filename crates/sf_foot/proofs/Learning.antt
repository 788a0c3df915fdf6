-- What becomes known of existentials where an operand has a value, and where a cell's fields have theirs.
-- Names: `learn-LAW`; `agree-LAW` of values that agree for what is known.
use Rattle.std.proofs.Common.{◌≡◌, ◌⊎◌, ◌==◌, ◌||◌, ℕ, Bool, true, false, cond, List, [], ◌∷◌, refl, sym, ap, ◌∙◌, inl, inr}
use Rattle.std.proofs.Math.Bool.{or_assoc}
use Rattle.std.proofs.lemmas.Bool.{eq-eqb, eqb-true, false≢true, or_cases}
use Rattle.sf_base.specs.declared.ids.FieldId.{FieldId}
use Rattle.sf_base.specs.declared.value.Value.{Value}
use Rattle.sf_base.specs.HeapStore.{Cell}
use Rattle.sf_core.specs.declared.assertion.Operand.{Operand}
use Rattle.sf_core.specs.declared.assertion.Operand.TheVariants.{Known as Evaluates, Exists}
use Rattle.sf_core.specs.Assertions.Determined.{IsKnown, is_existential, is_in_fields}
use Rattle.sf_core.specs.Assertions.Sat.{HasFields, operand}
use Rattle.sf_core.proofs.Assertions.Values.{value-which}

-- values of existentials that are these, for what is known
abbrev pub Agree : (ℕ → Bool) → (ℕ → Value) → (ℕ → Value) → Type 0
Agree known v some = (n : ℕ) → known n ≡ true → some n ≡ v n

-- values that make P hold, for what becomes known by it
pub record Learned (P : (ℕ → Value) → Type 0) (known after : ℕ → Bool) (v : ℕ → Value) : Type 0 where
  pub values : ℕ → Value
  pub keeps : Agree known v values
  pub holds : (some : ℕ → Value) → Agree after values some → P some
  pub only : (some : ℕ → Value) → Agree known v some → P some → Agree after values some

-- no values do
abbrev pub Refuted : ((ℕ → Value) → Type 0) → (known : ℕ → Bool) → (ℕ → Value) → Type 0
Refuted P known v = (some : ℕ → Value) → Agree known v some → P some → ⊥

-- one more set of numbers
abbrev pub plus : (known more : ℕ → Bool) → ℕ → Bool
plus known more n = known n || more n

pub plus-first : (known more : ℕ → Bool) (n : ℕ) → known n ≡ true → plus known more n ≡ true
plus-first known more n e = ap (λ b. b || more n) e

pub agree-first : (known more : ℕ → Bool) (v some : ℕ → Value) → Agree (plus known more) v some → Agree known v some
agree-first known more v some a n e = a n (plus-first known more n e)

-- values that agree with those that agree
pub agree-then : (known after : ℕ → Bool) (v w some : ℕ → Value) → ((n : ℕ) → known n ≡ true → after n ≡ true)
    → Agree known v w → Agree after w some → Agree known v some
agree-then known after v w some more a b n e = b n (more n e) ∙ a n e

-- the existential that an operand is
abbrev pub itself : {E : Type 0} → Operand E → ℕ → Bool
itself x n = is_existential n x

-- those that are the values of fields
abbrev pub in_fields : {E : Type 0} → List (FieldId × Operand E) → ℕ → Bool
in_fields fs n = is_in_fields n fs

module _ {E : Type 0} (val : E → Value) where
  pub known-operand : (known : ℕ → Bool) (v some : ℕ → Value) (x : Operand E) → Agree known v some → IsKnown known x
      → operand val some x ≡ operand val v x
  known-operand known v some (Evaluates x) a k = refl
  known-operand known v some (Exists n) a k = a n k

  -- an operand has a value
  learn-known : (known : ℕ → Bool) (v : ℕ → Value) (x : Operand E) (w : Value) → IsKnown known x
      → ((n : ℕ) → is_existential n x ≡ true → known n ≡ true)
      → Learned (λ some. w ≡ operand val some x) known (plus known (itself x)) v
      ⊎ Refuted (λ some. w ≡ operand val some x) known v
  learn-known known v x w k in_known = elim (value-which w (operand val v x)) [
    | inl e ↦ inl (record {
      values = v;
      keeps = λ n h. refl;
      holds = λ some a. e
          ∙ sym (known-operand known v some x (agree-first known (itself x) v some a) k);
      only = λ some a p n h. elim (or_cases (known n) (is_existential n x) h) [
        | inl i ↦ a n i
        | inr i ↦ a n (in_known n i)
      ];
    })
    | inr o ↦ inr (λ some a p. o (p ∙ known-operand known v some x a k))
  ]

  learn-new : (known : ℕ → Bool) (v : ℕ → Value) (m : ℕ) (w : Value) → known m ≡ false
      → Learned (λ some. w ≡ some m) known (plus known (λ n. m == n)) v
  learn-new known v m w new = record {
    values = λ n. cond (m == n) w (v n);
    keeps = λ n h. ap (λ b. cond b w (v n)) (other n h (m == n) refl);
    holds = λ some a. sym (a m (or-right (known m) (m == m) (eq-eqb m m refl))
        ∙ ap (λ b. cond b w (v m)) (eq-eqb m m refl));
    only = λ some a p n h. at some a p n h (m == n) refl;
  }
    where
      other : (n : ℕ) → known n ≡ true → (b : Bool) → (m == n) ≡ b → (m == n) ≡ false
      other n h false e = e
      other n h true e = absurd (false≢true (sym new ∙ ap known (eqb-true m n e) ∙ h))

      or-right : (a b : Bool) → b ≡ true → a || b ≡ true
      or-right true b e = refl
      or-right false b e = e

      from-or : (a b : Bool) → a || b ≡ true → b ≡ false → a ≡ true
      from-or true b e f = refl
      from-or false b e f = absurd (false≢true (sym f ∙ e))

      at : (some : ℕ → Value) → Agree known v some → w ≡ some m → (n : ℕ) → plus known (λ k. m == k) n ≡ true
          → (b : Bool) → (m == n) ≡ b → some n ≡ cond (m == n) w (v n)
      at some a p n h true e = sym (ap (λ b. cond b w (v n)) e ∙ p ∙ ap some (eqb-true m n e))
      at some a p n h false e = a n (from-or (known n) (m == n) h e) ∙ sym (ap (λ b. cond b w (v n)) e)

  pub learn-operand : (known : ℕ → Bool) (v : ℕ → Value) (x : Operand E) (w : Value)
      → Learned (λ some. w ≡ operand val some x) known (plus known (itself x)) v
      ⊎ Refuted (λ some. w ≡ operand val some x) known v
  learn-operand known v (Evaluates x) w = learn-known known v (Evaluates x) w tt (λ n e. absurd (false≢true e))
  learn-operand known v (Exists m) w = go (known m) refl
    where
      go : (b : Bool) → known m ≡ b
          → Learned (λ some. w ≡ operand val some (Exists m)) known (plus known (itself {E = E} (Exists m))) v
          ⊎ Refuted (λ some. w ≡ operand val some (Exists m)) known v
      go true e = learn-known known v (Exists m) w e (λ n h. sym (ap known (eqb-true m n h)) ∙ e)
      go false e = inl (learn-new known v m w e)

  -- a cell's fields have their values
  pub learn-fields : (known : ℕ → Bool) (v : ℕ → Value) (fs : List (FieldId × Operand E)) (here : Cell)
      → Learned (λ some. HasFields (operand val some) fs here) known (plus known (in_fields fs)) v
      ⊎ Refuted (λ some. HasFields (operand val some) fs here) known v
  learn-fields known v [] here = inl (record {
    values = v;
    keeps = λ n h. refl;
    holds = λ some a. tt;
    only = λ some a p n h. elim (or_cases (known n) false h) [ inl i ↦ a n i | inr i ↦ absurd (false≢true i) ];
  })
  learn-fields known v (f ∷ fs) here = first (learn-operand known v f.1 (here f.0.0))
      (λ w. learn-fields (plus known (itself f.1)) w fs here)
    where
      same : (n : ℕ) → plus (plus known (itself f.1)) (in_fields fs) n
          ≡ plus known (in_fields (f ∷ fs)) n
      same n = or_assoc (known n) (is_existential n f.1) (is_in_fields n fs)

      first : Learned (λ some. here f.0.0 ≡ operand val some f.1) known (plus known (itself f.1)) v
          ⊎ Refuted (λ some. here f.0.0 ≡ operand val some f.1) known v
          → ((w : ℕ → Value) → Learned (λ some. HasFields (operand val some) fs here)
          (plus known (itself f.1)) (plus (plus known (itself f.1)) (in_fields fs)) w
          ⊎ Refuted (λ some. HasFields (operand val some) fs here) (plus known (itself f.1)) w)
          → Learned (λ some. HasFields (operand val some) (f ∷ fs) here) known (plus known (in_fields (f ∷ fs))) v
          ⊎ Refuted (λ some. HasFields (operand val some) (f ∷ fs) here) known v
      first (inr fails) rest = inr (λ some a p. fails some a p.0)
      first (inl g) rest = elim (rest g.values) [
        | inr fails ↦ inr (λ some a p. fails some (g.only some a p.0) p.1)
        | inl h ↦ inl (record {
          values = h.values;
          keeps = agree-then known (plus known (itself f.1)) v g.values h.values
              (plus-first known (itself f.1)) g.keeps h.keeps;
          holds = λ some a.
              let b : Agree (plus (plus known (itself f.1)) (in_fields fs)) h.values some =
              λ n e. a n (sym (same n) ∙ e) in (
                g.holds some (agree-then (plus known (itself f.1))
                    (plus (plus known (itself f.1)) (in_fields fs)) g.values h.values some
                    (plus-first (plus known (itself f.1)) (in_fields fs)) h.keeps b),
                h.holds some b,
              );
          only = λ some a p n e. h.only some (g.only some a p.0) p.1 n (same n ∙ e);
        })
      ]
