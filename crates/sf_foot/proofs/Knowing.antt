-- What is known of existentials, as it grows.
-- Names: `told-LAW` of operands, `grows-LAW`, `learns-LAW`, `refutes-LAW`, `agrees-LAW` of values.
use Rattle.std.proofs.Common.{◌≡◌, ◌==◌, ◌||◌, ◌↔◌, ℕ, Bool, true, false, List, [], ◌∷◌, Option, Some, None, is_some, IsTrue, not, refl, sym, ap, ◌∙◌, subst, inl, inr, arith, true≢false}
use Rattle.std.proofs.lemmas.Bool.{or_cases, or_left, or_right}
use Rattle.std.proofs.Math.Bool.{or_assoc}
use Rattle.std.proofs.lemmas.Bool.Decides.{nat_tests}
use Rattle.std.proofs.lemmas.Option.{same_Some, none-some}
use Rattle.sf_base.proofs.Sums.{either}
use Rattle.sf_base.specs.declared.value.Value.{Value}
use Rattle.sf_core.specs.declared.assertion.Operand.{Operand}
use Rattle.sf_core.specs.declared.assertion.Operand.TheVariants.{Known as Evaluates, Exists}
use Rattle.sf_base.specs.declared.ids.FieldId.{FieldId}
use Rattle.sf_base.specs.HeapStore.{Cell}
use Rattle.sf_core.specs.declared.assertion.Scope.{Scope}
use Rattle.sf_core.specs.Assertions.Determined.{IsKnown, is_existential, is_in_fields}
use Rattle.sf_core.specs.Assertions.InOrder.{is_known}
use Rattle.sf_core.specs.Assertions.Sat.{HasFields, operand}
use Rattle.sf_core.specs.Assertions.Scopes.{is_made_by}
use Rattle.sf_foot.specs.declared.known.Known.{Known}
use Rattle.sf_foot.specs.Checked.Known.{Agrees, FieldsLeft, Grows, IsWithin, Learns, Refutes, is_told, told_of}

-- values that agree with more agree with less
pub agrees-before : (p : ℕ → Bool) (a b : Known) (some : ℕ → Value) → Grows p a b → Agrees b some → Agrees a some
agrees-before p a b some g h = λ n v e. h n v (g.stays n v e)

-- nothing is learned
pub grows-none : (a : Known) (p : ℕ → Bool) → ((n : ℕ) → p n ≡ true → is_told a n ≡ true) → Grows p a a
grows-none a p k = record {
  outer = refl;
  made = refl;
  more = λ n. go (is_told a n) (p n) (k n);
  stays = λ n v e. e;
}
  where
    go : (b q : Bool) → (q ≡ true → b ≡ true) → b ≡ (b || q)
    go true q h = refl
    go false true h = absurd (true≢false (sym (h refl)))
    go false false h = refl

-- one thing after the other
pub grows-then : (p q : ℕ → Bool) (a b c : Known) → Grows p a b → Grows q b c → Grows (λ n. p n || q n) a c
grows-then p q a b c g h = record {
  outer = h.outer ∙ g.outer;
  made = h.made ∙ g.made;
  more = λ n. h.more n ∙ ap (λ (k : Bool). k || q n) (g.more n) ∙ or_assoc (is_told a n) (p n) (q n);
  stays = λ n v e. h.stays n v (g.stays n v e);
}

-- what may become known still may
pub within-grows : (p : ℕ → Bool) (a b : Known) (n : ℕ) → Grows p a b → IsWithin a n → IsWithin b n
within-grows p a b n g (inl e) = inl (g.more n ∙ or_left (is_told a n) (p n) e)
within-grows p a b n g (inr e) = inr (subst (λ (m : Scope). is_made_by m n ≡ true) (sym g.made) e)

pub learns-then : (P Q : (ℕ → Value) → Type 0) (p q : ℕ → Bool) (a b c : Known) → Learns P p a b → Learns Q q b c
    → Learns (λ s. P s × Q s) (λ n. p n || q n) a c
learns-then P Q p q a b c g h = record {
  grows = grows-then p q a b c g.grows h.grows;
  holds = λ s e. (g.holds s (agrees-before q b c s h.grows e), h.holds s e);
  only = λ s e k. h.only s (g.only s e k.0) k.1;
}

pub refutes-then : (P Q : (ℕ → Value) → Type 0) (p : ℕ → Bool) (a b : Known) → Learns P p a b → Refutes Q b
    → Refutes (λ s. P s × Q s) a
refutes-then P Q p a b g h = λ s e k. h s (g.only s e k.0) k.1

pub refutes-first : (P Q : (ℕ → Value) → Type 0) (a : Known) → Refutes P a → Refutes (λ s. P s × Q s) a
refutes-first P Q a h = λ s e k. h s e k.0

-- the same said in another way
pub learns-same : (P Q : (ℕ → Value) → Type 0) (p : ℕ → Bool) (a b : Known)
    → ((s : ℕ → Value) → Agrees a s → P s ↔ Q s) → Learns P p a b → Learns Q p a b
learns-same P Q p a b f h = record {
  grows = h.grows;
  holds = λ s e. (f s (agrees-before p a b s h.grows e)).0 (h.holds s e);
  only = λ s e k. h.only s e ((f s e).1 k);
}

-- what holds of all values that agree is learned from what is known
pub learns-none : (P : (ℕ → Value) → Type 0) (p : ℕ → Bool) (a : Known)
    → ((n : ℕ) → p n ≡ true → is_told a n ≡ true) → ((s : ℕ → Value) → Agrees a s → P s) → Learns P p a a
learns-none P p a k h = record { grows = grows-none a p k; holds = h; only = λ s e q. e }

-- Values of what isn't an existential
module _ {E : Type 0} (val : E → Value) where
  -- the operand has the value that is known
  pub told-operand : (a : Known) (x : Operand E) (v : Value) (some : ℕ → Value) → Agrees a some
      → told_of val a x ≡ Some v → operand val some x ≡ v
  told-operand a (Evaluates x) v some h e = same_Some (val x) v e
  told-operand a (Exists n) v some h e = h n v e

  -- an existential whose value is known is known
  pub told-existential : (a : Known) (x : Operand E) (v : Value) → told_of val a x ≡ Some v → (n : ℕ)
      → is_existential n x ≡ true → is_told a n ≡ true
  told-existential a (Evaluates x) v e n i = absurd (true≢false (sym i))
  told-existential a (Exists m) v e n i =
      let same : m ≡ n = one m n i in
      subst (λ k. is_told a k ≡ true) same (ap is_some e)
    where
      one : (m n : ℕ) → (m == n) ≡ true → m ≡ n
      one m n i = grind (arith, nat_tests)

  -- an operand that is known has a value
  pub told-known : (a : Known) (x : Operand E) → IsKnown (is_told a) x → told_of val a x ≡ None → ⊥
  told-known a (Evaluates x) k e = none-some (val x) (sym e)
  told-known a (Exists n) k e = true≢false (sym k ∙ ap is_some e)

-- Tests whose sides are known
module _ {E : Type 0} (val : E → Value) where
  -- the value of an operand that is known
  pub known-told : (a : Known) (x : Operand E) → IsKnown (is_told a) x → (v : Value) × (told_of val a x ≡ Some v)
  known-told a x k = go (told_of val a x) refl
    where
      go : (o : Option Value) → told_of val a x ≡ o → (v : Value) × (told_of val a x ≡ Some v)
      go None e = absurd (told-known val a x k e)
      go (Some v) e = (v, e)

  -- a comparison of what is known is one of the values
  pub test-equal : (a : Known) (x y : Operand E) (b : Bool) → IsKnown (is_told a) x → IsKnown (is_told a) y
      → ((v w : Value) → told_of val a x ≡ Some v → told_of val a y ≡ Some w → IsTrue b ↔ (v ≡ w))
      → (some : ℕ → Value) → Agrees a some → IsTrue b ↔ (operand val some x ≡ operand val some y)
  test-equal a x y b k l f some h =
      let v = known-told a x k in
      let w = known-told a y l in
      let left = told-operand val a x v.0 some h v.1 in
      let right = told-operand val a y w.0 some h w.1 in
      let both = f v.0 w.0 v.1 w.1 in
      (λ t. left ∙ both.0 t ∙ sym right, λ e. both.1 (sym left ∙ e ∙ right))

  -- Fields of a cell
  module _ (cell : Cell) where
    -- one field more
    pub fields-more : (before : Known) (all : List (FieldId × Operand E)) (now next : Known) (f : FieldId × Operand E)
        (fs : List (FieldId × Operand E)) → FieldsLeft val cell before all now (f ∷ fs)
        → Learns (λ some. cell f.0.0 ≡ operand val some f.1) (λ n. is_existential n f.1) now next
        → FieldsLeft val cell before all next fs
    fields-more before all now next f fs h g = record {
      ends = λ after k. h.ends after (learns-then (λ some. cell f.0.0 ≡ operand val some f.1)
          (λ some. HasFields (operand val some) fs cell) (λ n. is_existential n f.1) (λ n. is_in_fields n fs)
          now next after g k);
      fails = λ k. h.fails (refutes-then (λ some. cell f.0.0 ≡ operand val some f.1)
          (λ some. HasFields (operand val some) fs cell) (λ n. is_existential n f.1) now next g k);
      within = λ n e. within-grows (λ m. is_existential m f.1) now next n g.grows
          (h.within n (or_right (is_existential n f.1) (is_in_fields n fs) e));
    }

    -- a field that has another value
    pub fields-stop : (before : Known) (all : List (FieldId × Operand E)) (now : Known) (f : FieldId × Operand E)
        (fs : List (FieldId × Operand E)) → FieldsLeft val cell before all now (f ∷ fs)
        → Refutes (λ some. cell f.0.0 ≡ operand val some f.1) now
        → Refutes (λ some. HasFields (operand val some) all cell) before
    fields-stop before all now f fs h g = h.fails (refutes-first (λ some. cell f.0.0 ≡ operand val some f.1)
        (λ some. HasFields (operand val some) fs cell) now g)

    -- no field is left
    pub fields-end : (before : Known) (all : List (FieldId × Operand E)) (now : Known)
        → FieldsLeft val cell before all now []
        → Learns (λ some. HasFields (operand val some) all cell) (λ n. is_in_fields n all) before now
    fields-end before all now h = h.ends now (learns-none (λ some. HasFields (operand val some) [] cell)
        (λ n. is_in_fields {E = E} n []) now (λ n e. absurd (true≢false (sym e))) (λ some e. tt))

    pub fields-within : (before : Known) (all : List (FieldId × Operand E)) (now : Known) (f : FieldId × Operand E)
        (fs : List (FieldId × Operand E)) → FieldsLeft val cell before all now (f ∷ fs) → (n : ℕ)
        → is_existential n f.1 ≡ true → IsWithin now n
    fields-within before all now f fs h n e = h.within n (or_left (is_existential n f.1) (is_in_fields n fs) e)

-- what isn't true is false
pub not-both : {P : Type 0} (b : Bool) → IsTrue b ↔ P → IsTrue (not b) ↔ (P → ⊥)
not-both true h = (λ e. absurd (true≢false (sym e)), λ n. absurd (n (h.0 refl)))
not-both false h = (λ e p. true≢false (sym (h.1 p)), λ n. refl)

-- Equalities of what isn't an existential, of which one side is known
module _ {E : Type 0} (val : E → Value) where
  -- an operand that is known stays so
  told-stays : (p : ℕ → Bool) (a b : Known) (x : Operand E) (v : Value) → Grows p a b → told_of val a x ≡ Some v
      → told_of val b x ≡ Some v
  told-stays p a b (Evaluates x) v g e = e
  told-stays p a b (Exists n) v g e = g.stays n v e

  -- one side is as the other
  sides : (a : Known) (x y : Operand E) (v : Value) (s : ℕ → Value) → operand val s x ≡ v
      → ((v ≡ operand val s x) × (v ≡ operand val s y)) ↔ (operand val s x ≡ operand val s y)
  sides a x y v s i = (λ k. i ∙ k.1, λ k. (sym i, sym i ∙ k))

  -- the other side gets the value of the left one
  pub equal-left : (a b : Known) (x y : Operand E) (v : Value) → told_of val a x ≡ Some v
      → Learns (λ s. v ≡ operand val s y) (λ n. is_existential n y) a b
      → Learns (λ s. operand val s x ≡ operand val s y) (λ n. is_existential n x || is_existential n y) a b
  equal-left a b x y v e h =
      learns-same (λ s. (v ≡ operand val s x) × (v ≡ operand val s y)) (λ s. operand val s x ≡ operand val s y)
      (λ n. is_existential n x || is_existential n y) a b
      (λ s i. sides a x y v s (told-operand val a x v s i e))
      (learns-then (λ s. v ≡ operand val s x) (λ s. v ≡ operand val s y) (λ n. is_existential n x)
      (λ n. is_existential n y) a a b
      (learns-none (λ s. v ≡ operand val s x) (λ n. is_existential n x) a (told-existential val a x v e)
      (λ s i. sym (told-operand val a x v s i e))) h)

  -- the other side gets the value of the right one
  pub equal-right : (a b : Known) (x y : Operand E) (v : Value) → told_of val a y ≡ Some v
      → Learns (λ s. v ≡ operand val s x) (λ n. is_existential n x) a b
      → Learns (λ s. operand val s x ≡ operand val s y) (λ n. is_existential n x || is_existential n y) a b
  equal-right a b x y v e h =
      let later = told-stays (λ n. is_existential n x) a b y v h.grows e in
      learns-same (λ s. (v ≡ operand val s x) × (v ≡ operand val s y)) (λ s. operand val s x ≡ operand val s y)
      (λ n. is_existential n x || is_existential n y) a b
      (λ s i. let k = told-operand val a y v s i e in
      (λ o. sym o.0 ∙ o.1, λ o. (sym (o ∙ k), sym k)))
      (learns-then (λ s. v ≡ operand val s x) (λ s. v ≡ operand val s y) (λ n. is_existential n x)
      (λ n. is_existential n y) a b b h
      (learns-none (λ s. v ≡ operand val s y) (λ n. is_existential n y) b (told-existential val b y v later)
      (λ s i. sym (told-operand val b y v s i later))))

  -- one side of an equality is known
  pub equal-known : (a : Known) (x y : Operand E) → is_known (is_told a) x || is_known (is_told a) y ≡ true
      → told_of val a x ≡ None → told_of val a y ≡ None → ⊥
  equal-known a x y h e f = either (or_cases (is_known (is_told a) x) (is_known (is_told a) y) h)
      (λ i. told-known val a x (known x i) e) (λ i. told-known val a y (known y i) f)
    where
      known : (z : Operand E) → is_known (is_told a) z ≡ true → IsKnown (is_told a) z
      known (Evaluates z) i = tt
      known (Exists n) i = i
