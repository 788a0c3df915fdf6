-- A share of slots and what a frame sees of it: both split and join alike.
-- Names: `seen-LAW` of `IsSeen`.
use Rattle.std.specs.Prelude.{◌≡◌, ◌⊎◌, ℕ, Bool, true, false, cond, Option, Some, None, List, [], ◌∷◌, get_or, map, ◌==◌}
use Rattle.std.specs.Option.{option_or, unwrap_or}
use Rattle.std.proofs.Common.{sym, ap, ap₂, ◌∙◌, refl, subst, subst₂, inl, inr, true≢false}
use Rattle.std.proofs.lemmas.Option.{none-some}
use Rattle.sf_base.specs.declared.ids.Var.{Var}
use Rattle.sf_base.specs.declared.value.Value.{Value}
use Rattle.sf_base.specs.declared.value.Value.TheVariants.{Nil as nil}
use Rattle.sf_base.specs.HeapStore.{Apart, Cell, Map, Slot, Splits, same_slot}
use Rattle.sf_base.specs.Variables.{same_var}
use Rattle.sf_base.proofs.MapSplits.{splits-has_left, splits-has_right, splits-lacks_right, splits-which}
use Rattle.sf_base.proofs.StoreSplits.{slot-same, slot-self}
use Rattle.sf_base.proofs.Variables.{same_var-decides}
use Rattle.sf_core.specs.declared.assertion.Test.{Test}
use Rattle.sf_core.specs.declared.assertion.Test.TheVariants.{True, Equal, Differ}
use Rattle.sf_core.specs.declared.command.Expr.{Expr}
use Rattle.sf_core.specs.declared.command.Expr.TheVariants.{Var as Variable, Nil, Int}
use Rattle.sf_core.specs.Assertions.Sat.{IsTrueOf}
use Rattle.sf_core.specs.Machine.Config.{evaluate}
use Rattle.sf_core.specs.Machine.Step.{arguments}
use Rattle.sf_core.specs.Program.Syntax.{Call}
use Rattle.sf_safe.specs.Checked.Own.{HasAll, HasExpr, HasTest, Own, Parts, put_cell, put_slot}
use Rattle.sf_safe.specs.Checked.Local.{HasIn, HasInAll, HasInTest, HasVar, Local, LocalParts, arguments_in, look, put_local, put_variable}

-- the share has just the slots of the variables that are seen, with their values, and the same cells and tokens;
-- different variables that are seen have different slots
pub record IsSeen (slots : Var → Slot) (l : Local) (w : Own) : Type 0 where
  pub cells : w.cells ≡ l.cells
  pub tokens : w.tokens ≡ l.tokens
  pub each : (x : Var) (v : Value) → l.values x ≡ Some v → w.slots (slots x) ≡ Some v
  pub only : (s : Slot) (v : Value) → w.slots s ≡ Some v → (x : Var) × (l.values x ≡ Some v) × (slots x ≡ s)
  pub apart : (x y : Var) (v u : Value) → l.values x ≡ Some v → l.values y ≡ Some u → slots x ≡ slots y → x ≡ y

module _ (slots : Var → Slot) (l : Local) (w : Own) (s : IsSeen slots l w) where
  -- VALUES

  pub seen-has : (e : Expr) → HasIn l e → HasExpr w slots e
  seen-has (Variable x) h = (h.0, s.each x.var h.0 h.1)
  seen-has Nil h = tt
  seen-has (Int i) h = tt

  pub seen-has_test : (test : Test Expr) → HasInTest l test → HasTest w slots test
  seen-has_test True h = tt
  seen-has_test (Equal x y) h = (seen-has x h.0, seen-has y h.1)
  seen-has_test (Differ x y) h = (seen-has x h.0, seen-has y h.1)

  pub seen-has_all : (es : List Expr) → HasInAll l es → HasAll w slots es
  seen-has_all [] h = tt
  seen-has_all (e ∷ es) h = (seen-has e h.0, seen-has_all es h.1)

  pub seen-is : (e : Expr) → HasIn l e → evaluate slots w.slots e ≡ look l e
  seen-is (Variable x) h = ap (λ z. unwrap_or z nil) (s.each x.var h.0 h.1 ∙ sym h.1)
  seen-is Nil h = refl
  seen-is (Int i) h = refl

  pub seen-is_test : (test : Test Expr) → HasInTest l test
      → IsTrueOf (evaluate slots w.slots) test ≡ IsTrueOf (look l) test
  seen-is_test True h = refl
  seen-is_test (Equal x y) h = ap₂ (λ a b. a ≡ b) (seen-is x h.0) (seen-is y h.1)
  seen-is_test (Differ x y) h = ap₂ (λ a b. a ≡ b → ⊥) (seen-is x h.0) (seen-is y h.1)

  values-are : (es : List Expr) → HasInAll l es → map (evaluate slots w.slots) es ≡ map (look l) es
  values-are [] h = refl
  values-are (e ∷ es) h = ap₂ (λ a b. a ∷ b) (seen-is e h.0) (values-are es h.1)

  pub seen-arguments : (c : Call) → HasInAll l c.values → arguments slots w.slots c ≡ arguments_in l c
  seen-arguments c h = ap (λ vs. λ i. get_or vs i nil) (values-are c.values h)

  -- CHANGES

  pub seen-cell : (location : ℕ) (c : Option Cell) → IsSeen slots (put_local location c l) (put_cell location c w)
  seen-cell location c = record {
    cells = ap (λ h. λ other. cond (other == location) c (h other)) s.cells;
    tokens = s.tokens;
    each = s.each;
    only = s.only;
    apart = s.apart;
  }

  pub seen-set : (x : Var) (v : Value) → HasVar l x → IsSeen slots (put_variable x v l) (put_slot (slots x) v w)
  seen-set x v h = record {
    cells = s.cells;
    tokens = s.tokens;
    each = λ y u e. each y u (same_var y x) refl e;
    only = λ t u e. only t u (same_slot t (slots x)) refl e;
    apart = λ y z a b i j. let m = had y a i in let o = had z b j in s.apart y z m.0 o.0 m.1 o.1;
  }
    where
      -- what is seen after it was seen before
      had-by : (y : Var) (a : Value) (b : Bool) → same_var y x ≡ b → cond b (Some v) (l.values y) ≡ Some a → HasVar l y
      had-by y a true t e = subst (HasVar l) (sym ((same_var-decides y x).0 t)) h
      had-by y a false t e = (a, e)

      had : (y : Var) (a : Value) → cond (same_var y x) (Some v) (l.values y) ≡ Some a → HasVar l y
      had y a e = had-by y a (same_var y x) refl e

      self : same_var x x ≡ true
      self = (same_var-decides x x).1 refl

      each : (y : Var) (u : Value) (b : Bool) → same_var y x ≡ b → cond (same_var y x) (Some v) (l.values y) ≡ Some u
          → cond (same_slot (slots y) (slots x)) (Some v) (w.slots (slots y)) ≡ Some u
      each y u true t e =
          let same = (same_var-decides y x).0 t in
          ap (λ z. cond (same_slot (slots z) (slots x)) (Some v) (w.slots (slots z))) same
          ∙ ap (λ b. cond b (Some v) (w.slots (slots x))) (slot-self (slots x))
          ∙ sym (ap (λ b. cond b (Some v) (l.values y)) t) ∙ e
      each y u false t e =
          let old = sym (ap (λ b. cond b (Some v) (l.values y)) t) ∙ e in
          ap (λ b. cond b (Some v) (w.slots (slots y))) (other (same_slot (slots y) (slots x)) refl) ∙ s.each y u old
        where
          other : (b : Bool) → same_slot (slots y) (slots x) ≡ b → same_slot (slots y) (slots x) ≡ false
          other false d = d
          other true d =
              let old = sym (ap (λ b. cond b (Some v) (l.values y)) t) ∙ e in
              let same = s.apart y x u h.0 old h.1 (slot-same (slots x) (slots y) d) in
              absurd (true≢false (sym (ap (λ z. same_var z x) same ∙ self) ∙ t))

      only : (t : Slot) (u : Value) (b : Bool) → same_slot t (slots x) ≡ b
          → cond (same_slot t (slots x)) (Some v) (w.slots t) ≡ Some u
          → (y : Var) × (cond (same_var y x) (Some v) (l.values y) ≡ Some u) × (slots y ≡ t)
      only t u true d e = (
        x,
        ap (λ b. cond b (Some v) (l.values x)) self ∙ sym (ap (λ b. cond b (Some v) (w.slots t)) d) ∙ e,
        sym (slot-same (slots x) t d),
      )
      only t u false d e =
          let m = s.only t u (sym (ap (λ b. cond b (Some v) (w.slots t)) d) ∙ e) in
          (m.0, ap (λ b. cond b (Some v) (l.values m.0)) (not-x m.0 m.2 (same_var m.0 x) refl) ∙ m.1, m.2)
        where
          not-x : (y : Var) → slots y ≡ t → (b : Bool) → same_var y x ≡ b → same_var y x ≡ false
          not-x y i false j = j
          not-x y i true j =
              let k : same_slot t (slots x) ≡ true =
              ap (λ z. same_slot z (slots x)) (sym i ∙ ap slots ((same_var-decides y x).0 j)) ∙ slot-self (slots x) in
              absurd (true≢false (sym k ∙ d))

  -- SPLITS

  -- what a map of variables has for a slot of the share
  abbrev pub pick : Map Var Value → (t : Slot) (o : Option Value) → w.slots t ≡ o → Option Value
  pick m t None e = None
  pick m t (Some v) e = m (s.only t v e).0

  pick-is : (m : Map Var Value) (x : Var) (v : Value) → l.values x ≡ Some v → (o : Option Value)
      (e : w.slots (slots x) ≡ o) → pick m (slots x) o e ≡ m x
  pick-is m x v h None e = absurd (none-some v (sym e ∙ s.each x v h))
  pick-is m x v h (Some u) e =
      let y = s.only (slots x) u e in ap m (s.apart y.0 x u v y.1 h y.2)

  -- the share of a part of what is seen
  abbrev pub share_of : Local → Own
  share_of m = record {
    cells = m.cells;
    slots = λ t. pick m.values t (w.slots t) refl;
    tokens = m.tokens;
  }

  pub seen-part : (m : Local) → ((x : Var) (v : Value) → m.values x ≡ Some v → l.values x ≡ Some v)
      → IsSeen slots m (share_of m)
  seen-part m part = record {
    cells = refl;
    tokens = refl;
    each = λ x v e. pick-is m.values x v (part x v e) (w.slots (slots x)) refl ∙ e;
    only = λ t v e. only t v (w.slots t) refl e;
    apart = λ x y v u i j. s.apart x y v u (part x v i) (part y u j);
  }
    where
      only : (t : Slot) (v : Value) (o : Option Value) (e : w.slots t ≡ o) → pick m.values t o e ≡ Some v
          → (x : Var) × (m.values x ≡ Some v) × (slots x ≡ t)
      only t v None e i = absurd (none-some v i)
      only t v (Some u) e i = let y = s.only t u e in (y.0, i, y.2)

  pub seen-split : (m n : Local) → LocalParts l m n → Parts w (share_of m) (share_of n)
  seen-split m n q = record {
    cells = subst (λ z. Splits z m.cells n.cells) (sym s.cells) q.cells;
    slots = record { apart = λ t. apart t (w.slots t) refl; is = λ t. is t (w.slots t) refl };
    tokens = subst (λ z. Splits z m.tokens n.tokens) (sym s.tokens) q.tokens;
  }
    where
      apart : (t : Slot) (o : Option Value) (e : w.slots t ≡ o) → Apart (pick m.values t o e) (pick n.values t o e)
      apart t None e = tt
      apart t (Some v) e = q.values.apart (s.only t v e).0

      is : (t : Slot) (o : Option Value) (e : w.slots t ≡ o)
          → o ≡ option_or (pick m.values t o e) (pick n.values t o e)
      is t None e = refl
      is t (Some v) e = let y = s.only t v e in sym y.1 ∙ q.values.is y.0

-- JOINS

module _ (slots : Var → Slot) (m n : Local) (w u v : Own) (q : Parts w u v) (s : IsSeen slots m u)
    (t : IsSeen slots n v) where
  -- what is seen of both
  abbrev pub joined_view : Local
  joined_view = record {
    values = λ x. option_or (m.values x) (n.values x);
    cells = w.cells;
    tokens = w.tokens;
  }

  -- no slot is in both
  clash : {A : Type 0} (x y : Var) (a b : Value) → m.values x ≡ Some a → n.values y ≡ Some b → slots x ≡ slots y → A
  clash x y a b i j e =
      let none = splits-lacks_right (slots x) a q.slots (s.each x a i) in
      absurd (none-some b (sym (ap v.slots (sym e) ∙ none) ∙ t.each y b j))

  pub view-parts : LocalParts joined_view m n
  view-parts = record {
    values = record { apart = λ x. go x (m.values x) (n.values x) refl refl; is = λ x. refl };
    cells = subst₂ (λ a b. Splits w.cells a b) s.cells t.cells q.cells;
    tokens = subst₂ (λ a b. Splits w.tokens a b) s.tokens t.tokens q.tokens;
  }
    where
      go : (x : Var) (a b : Option Value) → m.values x ≡ a → n.values x ≡ b → Apart a b
      go x None b i j = tt
      go x (Some a) None i j = tt
      go x (Some a) (Some b) i j = clash x x a b i j refl

  either : (x : Var) (a : Value) → option_or (m.values x) (n.values x) ≡ Some a
      → (m.values x ≡ Some a) ⊎ (n.values x ≡ Some a)
  either x a e = elim (splits-which x a view-parts.values e) [ inl i ↦ inl i.0 | inr i ↦ inr i.0 ]

  pub view-seen : IsSeen slots joined_view w
  view-seen = record {
    cells = refl;
    tokens = refl;
    each = λ x a e. elim (either x a e) [
      | inl i ↦ splits-has_left (slots x) a q.slots (s.each x a i)
      | inr i ↦ splits-has_right (slots x) a q.slots (t.each x a i)
    ];
    only = λ z a e. elim (splits-which z a q.slots e) [
      | inl i ↦ let y = s.only z a i.0 in (y.0, splits-has_left y.0 a view-parts.values y.1, y.2)
      | inr i ↦ let y = t.only z a i.0 in (y.0, splits-has_right y.0 a view-parts.values y.1, y.2)
    ];
    apart = λ x y a b i j e. elim (either x a i) [
      | inl k ↦ elim (either y b j) [ inl o ↦ s.apart x y a b k o e | inr o ↦ clash x y a b k o e ]
      | inr k ↦ elim (either y b j) [ inl o ↦ clash y x b a o k (sym e) | inr o ↦ t.apart x y a b k o e ]
    ];
  }
