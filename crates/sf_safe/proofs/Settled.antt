-- The shares of free resources, from a store that has just their variables, and heaps that satisfy their invariants.
-- Names: `settled-WHAT`.
use Rattle.std.specs.Prelude.{◌≡◌, ℕ, suc, Bool, true, false, cond, List, [], ◌∷◌, Option, Some, None, ◌==◌, ◌<◌, ◌≤◌, ◌+◌, ◌&&◌, leb, length, ltb}
use Rattle.std.specs.List.{slice_get}
use Rattle.std.specs.Option.{option_or, unwrap_or}
use Rattle.std.proofs.Common.{sym, ap, ◌∙◌, refl, subst, arith}
use Rattle.std.proofs.lemmas.Bool.Decides.{nat_tests}
use Rattle.std.proofs.lemmas.Option.{same_Some, slice_get_within}
use Rattle.sf_base.specs.declared.ids.ResId.{ResId}
use Rattle.sf_base.specs.declared.ids.Var.{Var}
use Rattle.sf_base.specs.declared.ids.Var.TheVariants.{Own as OwnVar, Shared}
use Rattle.sf_base.specs.declared.value.Value.{Value}
use Rattle.sf_base.specs.declared.value.Value.TheVariants.{Nil as nil}
use Rattle.sf_base.specs.HeapStore.{Apart, Heap, IsEmpty, Slot, Splits, Store, own, shared}
use Rattle.sf_base.proofs.MapSplits.{empty-is, map-same, only}
use Rattle.sf_calls.specs.Checked.Lemmas.Within.{level_within}
use Rattle.sf_core.specs.Assertions.Sat.{Sat}
use Rattle.sf_core.specs.Machine.Config.{evaluate}
use Rattle.sf_core.specs.Machine.Start.{Invariants, entry_slot}
use Rattle.sf_core.specs.Program.Formed.{IsFormed, IsOfResource}
use Rattle.sf_core.specs.Program.Syntax.{Program, Resource}
use Rattle.sf_core.proofs.Assertions.Sat.{sat-same_variables}
use Rattle.sf_safe.specs.Checked.Own.{Own, Parts, nothing}
use Rattle.sf_safe.specs.Checked.Contract.{FreeShare}
use Rattle.sf_safe.specs.Checked.Invariant.{Resources}
use Rattle.sf_safe.specs.Checked.Owns.{own-same}

-- the resource has a variable of that number
abbrev pub HasVariable : Program → ResId → ℕ → Type 0
HasVariable p r i = (of : Resource) × (slice_get p.resources r.0 ≡ Some of) × (i < length of.variables)

module _ (p : Program) (formed : IsFormed p) (store : Store)
    (kept : (r : ResId) (i : ℕ) → HasVariable p r i → (v : Value) × (store (shared r i) ≡ Some v))
    (no_more : (r : ResId) (i : ℕ) (v : Value) → store (shared r i) ≡ Some v → HasVariable p r i) where
  -- the slot is one of the resources from there on
  abbrev pub from : ℕ → Slot → Bool
  from m (own event i) = false
  from m (shared r i) = leb m r.0

  -- the slot is one of that resource
  abbrev pub of_one : ℕ → Slot → Bool
  of_one m (own event i) = false
  of_one m (shared r i) = r.0 == m

  -- the tokens of the resources from there on, as far as there are such
  abbrev pub tokens_from : ℕ → ResId → Bool
  tokens_from m r = leb m r.0 && ltb r.0 (length p.resources)

  abbrev pub rest_share : ℕ → Heap → Own
  rest_share m h = record {
    cells = h;
    slots = only (from m) store;
    tokens = λ r. cond (tokens_from m r) (Some tt) None;
  }

  abbrev pub one_share : ℕ → Heap → Own
  one_share m h = record {
    cells = h;
    slots = only (of_one m) store;
    tokens = λ r. cond (r.0 == m) (Some tt) None;
  }

  module _ {X : Type 0} where
    part-apart : (a b : Bool) (x : Option X) → (a ≡ true → b ≡ true → ⊥)
        → Apart (cond a x None) (cond b x None)
    part-apart true true None n = tt
    part-apart true true (Some x) n = absurd (n refl refl)
    part-apart true false None n = tt
    part-apart true false (Some x) n = tt
    part-apart false b x n = tt

    part-or : (d a b : Bool) (x : Option X) → (a ≡ true → d ≡ true) → (b ≡ true → d ≡ true)
        → (d ≡ true → a ≡ false → b ≡ true) → cond d x None ≡ option_or (cond a x None) (cond b x None)
    part-or true true true None i j k = refl
    part-or true true true (Some x) i j k = refl
    part-or true true false None i j k = refl
    part-or true true false (Some x) i j k = refl
    part-or true false true x i j k = refl
    part-or true false false x i j k = let z = k refl refl in absurd (cc)
    part-or false true b x i j k = let z = i refl in absurd (cc)
    part-or false false true x i j k = let z = j refl in absurd (cc)
    part-or false false false x i j k = refl

  ways : (r m : ℕ) → (r == m ≡ true → leb (suc m) r ≡ true → ⊥) × (r == m ≡ true → leb m r ≡ true)
      × (leb (suc m) r ≡ true → leb m r ≡ true) × (leb m r ≡ true → r == m ≡ false → leb (suc m) r ≡ true)
  ways r m = (
    λ a b. grind (arith, nat_tests),
    λ a. grind (arith, nat_tests),
    λ a. grind (arith, nat_tests),
    λ a b. grind (arith, nat_tests),
  )

  token-ways : (r m n : ℕ) → m < n
      → (r == m ≡ true → leb (suc m) r && ltb r n ≡ true → ⊥) × (r == m ≡ true → leb m r && ltb r n ≡ true)
      × (leb (suc m) r && ltb r n ≡ true → leb m r && ltb r n ≡ true)
      × (leb m r && ltb r n ≡ true → r == m ≡ false → leb (suc m) r && ltb r n ≡ true)
  token-ways r m n l = (
    λ a b. grind (arith, nat_tests, a, b),
    λ a. grind (arith, nat_tests, a, l),
    λ a. grind (arith, nat_tests, a),
    λ a b. grind (arith, nat_tests, a, b),
  )

  level-parts : (m : ℕ) (h one rest : Heap) → m < length p.resources → Splits h one rest
      → Parts (rest_share m h) (one_share m one) (rest_share (suc m) rest)
  level-parts m h one rest l j = record {
    cells = j;
    slots = record { apart = λ y. apart y; is = λ y. is y };
    tokens = record {
      apart = λ r. let w = token-ways r.0 m (length p.resources) l in
          part-apart (r.0 == m) (tokens_from (suc m) r) (Some tt) w.0;
      is = λ r. let w = token-ways r.0 m (length p.resources) l in
          part-or (tokens_from m r) (r.0 == m) (tokens_from (suc m) r) (Some tt) w.1 w.2 w.3;
    };
  }
    where
      apart : (y : Slot) → Apart (only (of_one m) store y) (only (from (suc m)) store y)
      apart (own e i) = tt
      apart (shared r i) =
          let w = ways r.0 m in part-apart (r.0 == m) (leb (suc m) r.0) (store (shared r i)) w.0

      is : (y : Slot)
          → only (from m) store y ≡ option_or (only (of_one m) store y) (only (from (suc m)) store y)
      is (own e i) = refl
      is (shared r i) =
          let w = ways r.0 m in
          part-or (leb m r.0) (r.0 == m) (leb (suc m) r.0) (store (shared r i)) w.1 w.2 w.3

  -- nothing is from past the last resource on
  past-slot : (m : ℕ) → length p.resources ≤ m → (y : Slot) → only (from m) store y ≡ None
  past-slot m l (own e i) = refl
  past-slot m l (shared r i) = go (leb m r.0) refl (store (shared r i)) refl
    where
      go : (b : Bool) → leb m r.0 ≡ b → (v : Option Value) → store (shared r i) ≡ v → cond b v None ≡ None
      go false e v j = refl
      go true e None j = refl
      go true e (Some v) j =
          let k = no_more r i v j in
          let a : r.0 < length p.resources = slice_get_within p.resources r.0 k.0 k.1 in
          absurd (past m r.0 (length p.resources) e l a)
        where
          past : (m r n : ℕ) → leb m r ≡ true → n ≤ m → r < n → ⊥
          past m r n e l a = grind (arith, nat_tests)

  past-token : (m r n : ℕ) → n ≤ m → leb m r && ltb r n ≡ false
  past-token m r n l = grind (arith, nat_tests)

  nothing-is : (m : ℕ) (h : Heap) → length p.resources ≤ m → IsEmpty h → rest_share m h ≡ nothing
  nothing-is m h l e = own-same (rest_share m h) nothing (empty-is e)
      (map-same (only (from m) store) (λ y. None) (past-slot m l))
      (map-same (rest_share m h).tokens (λ r. None)
      (λ r. ap (λ b. cond {A = Option (Unit {0})} b (Some tt) None) (past-token m r.0 (length p.resources) l)))

  -- the share of one resource
  one-is : (m : ℕ) (q : Resource) (h : Heap) → slice_get p.resources m ≡ Some q
      → Sat q.invariant.level (evaluate entry_slot store) (λ n. nil) h
      → FreeShare p (record { 0 = m }) (one_share m h)
  one-is m q h there sat = record {
    resource = q;
    there = there;
    variables = record { each = λ x v. each x v; only = λ slot v e. just slot v e };
    tokens = refl;
    invariant = sat-same_variables q.invariant.level (λ x. unwrap_or (store (entry_slot x)) nil)
        (λ x. unwrap_or ((one_share m h).slots (entry_slot x)) nil) (λ n. nil) h
        (λ x o. same x (level_within p.fields (IsOfResource m (length q.variables)) [] x q.invariant.level
        (formed.resources m q there).annotation.within o)) sat;
  }
    where
      is-equal : (a b : ℕ) → a ≡ b → a == b ≡ true
      is-equal a b e = grind (arith, nat_tests)

      equal : (a b : ℕ) → a == b ≡ true → a ≡ b
      equal a b e = grind (arith, nat_tests)

      same : (x : Var) → IsOfResource m (length q.variables) x
          → unwrap_or (store (entry_slot x)) nil ≡ unwrap_or ((one_share m h).slots (entry_slot x)) nil
      same (OwnVar i) v = absurd v
      same (Shared r i) v =
          sym (ap (λ b. unwrap_or (cond b (store (shared r i)) None) nil) (is-equal r.0 m v.0))

      each : (x : Var) → IsOfResource m (length q.variables) x
          → (v : Value) × ((one_share m h).slots (entry_slot x) ≡ Some v)
      each (OwnVar i) v = absurd v
      each (Shared r i) v =
          let k = kept r i
          (q, subst (λ z. slice_get p.resources z ≡ Some q) (sym v.0) there, v.1) in
          (k.0, ap (λ b. cond b (store (shared r i)) None) (is-equal r.0 m v.0) ∙ k.1)

      cond-in : (b : Bool) (x : Option Value) (v : Value) → cond b x None ≡ Some v → (b ≡ true) × (x ≡ Some v)
      cond-in true x v d = (refl, d)
      cond-in false x v d = absurd (cc)

      just : (slot : Slot) (v : Value) → (one_share m h).slots slot ≡ Some v
          → (x : Var) × IsOfResource m (length q.variables) x × (entry_slot x ≡ slot)
      just (own e i) v d = absurd (cc)
      just (shared r i) v d =
          let b = cond-in (r.0 == m) (store (shared r i)) v d in
          let number = equal r.0 m b.0 in
          let k = no_more r i v b.1 in
          let res : k.0 ≡ q = same_Some k.0 q
          (sym k.1 ∙ ap (slice_get p.resources) number ∙ there) in
          (Shared r i, (number, subst (λ z. i < length z.variables) res k.2), refl)

  pub settled-resources : (m : ℕ) (rs : List Resource) (h : Heap) → length p.resources ≡ m + length rs
      → ((i : ℕ) (q : Resource) → slice_get rs i ≡ Some q → slice_get p.resources (m + i) ≡ Some q)
      → Invariants rs store h → Resources p (λ r. None) m rs (rest_share m h)
  settled-resources m [] h n at i = nothing-is m h (omega (arith, n)) i
  settled-resources m (q ∷ rs) h n at i = record {
    left = one_share m i.left;
    right = rest_share (suc m) i.right;
    parts = level-parts m h i.left i.right (omega (arith, n)) i.splits;
    first = one-is m q i.left (subst (λ z. slice_get p.resources z ≡ Some q) (plus-zero m) (at 0 q refl)) i.first;
    second = settled-resources (suc m) rs i.right (omega (arith, n))
        (λ j o e. subst (λ z. slice_get p.resources z ≡ Some o) (plus-suc m j) (at (suc j) o e)) i.second;
  }
    where
      plus-zero : (n : ℕ) → n + 0 ≡ n
      plus-zero n = omega arith

      plus-suc : (n i : ℕ) → n + suc i ≡ suc n + i
      plus-suc n i = omega arith
