-- What is owned is good.
-- Names: `sat-WHAT` carries an assertion from a share to the whole; `parts-WHAT` speaks of sf_core's parts.
use Rattle.std.specs.Prelude.{◌≡◌, ◌≢◌, ℕ, suc, Bool, true, false, cond, List, [], ◌∷◌, Option, Some, None, ◌⊎◌, ◌==◌, ◌&&◌, ◌<◌, ◌+◌, length, ltb}
use Rattle.std.specs.List.{slice_get}
use Rattle.std.specs.Option.{option_or, unwrap_or}
use Rattle.std.proofs.Common.{sym, ap, ap₂, ◌∙◌, refl, subst, inl, inr, arith}
use Rattle.std.proofs.lemmas.Bool.Decides.{nat_tests}
use Rattle.std.proofs.lemmas.Option.{same_Some, slice_get_within}
use Rattle.sf_base.specs.declared.ids.ResId.{ResId}
use Rattle.sf_base.specs.declared.ids.Var.{Var}
use Rattle.sf_base.specs.declared.value.Value.TheVariants.{Nil as nil}
use Rattle.sf_base.specs.HeapStore as heaps
use Rattle.sf_base.specs.HeapStore.{Heap, Slot, Splits}
use Rattle.sf_base.proofs.MapSplits.{empty-holds, splits-assoc_right, splits-comm, splits-cross, splits-empty_right, splits-has_left}
use Rattle.sf_base.proofs.StoreSplits.{resource-same}
use Rattle.sf_calls.specs.Checked.Lemmas.Within.{level_within}
use Rattle.sf_core.specs.declared.command.Expr.{Expr}
use Rattle.sf_core.specs.Assertions.Occurs.{VarOccursIn}
use Rattle.sf_core.specs.Assertions.Sat.{Sat}
use Rattle.sf_core.specs.Checked.GoodParts.{EndsWell, FramePart, InvariantPart, InvariantParts, RestPart, TaskParts}
use Rattle.sf_core.specs.Machine.Config.{Item, Frame, Task, runs, waits, Path, Common, Config, evaluate}
use Rattle.sf_core.specs.Machine.Enabled.{HasEnded}
use Rattle.sf_core.specs.Machine.Good.{Good, owed_by}
use Rattle.sf_core.specs.Machine.Start.{entry_slot}
use Rattle.sf_core.specs.Program.Formed.{IsFormed, IsOfResource}
use Rattle.sf_core.specs.Program.Init.{is_init, sets_up}
use Rattle.sf_core.specs.Program.Syntax.{Level, Program, Resource}
use Rattle.sf_core.proofs.Assertions.Sat.{sat-same_variables}
use Rattle.sf_core.proofs.Inits.{sets_up-is}
use Rattle.sf_core.proofs.Machine.GoodParts.{good-by_parts}
use Rattle.sf_safe.specs.Checked.Own.{Own, Parts, HasSlot, everything}
use Rattle.sf_safe.specs.Checked.Contract.{Known, Ended, FreeShare}
use Rattle.sf_safe.specs.Checked.Safe.{Safe}
use Rattle.sf_safe.specs.Checked.Invariant.{known, HasFrame, IsOwned, Resources, ShareOf, Tree}
use Rattle.sf_safe.proofs.NeverBad.{never-bad}
use Rattle.sf_safe.proofs.Owed.{each-map, owed-variable}
use Rattle.sf_safe.specs.Checked.Owns.{opened, order, parts-comm, parts-of_nothing, parts-right, two}

-- an assertion whose variables are owned means in the share what it means in all that there is
sat-everywhere : (a : Level Expr) (slots : Var → Slot) (all w r : Own) (heap : Heap) → Parts all w r
    → ((x : Var) → VarOccursIn a x → HasSlot w (slots x))
    → Sat a (evaluate slots w.slots) (λ n. nil) heap → Sat a (evaluate slots all.slots) (λ n. nil) heap
sat-everywhere a slots all w r heap p h s =
    sat-same_variables a (λ x. unwrap_or (w.slots (slots x)) nil) (λ x. unwrap_or (all.slots (slots x)) nil) (λ n. nil)
    heap
    (λ x o. let v = h x o in ap (λ z. unwrap_or z nil) (v.1 ∙ sym (splits-has_left (slots x) v.0 p.slots v.1))) s

-- what the return of a frame that ends owes holds of its share
sat-ended : (p : Program) → IsFormed p → (k : Known) (all w r : Own) → Parts all w r → Ended p k w
    → FramePart p all.slots k.fixed [] w.cells
sat-ended p formed k all w r q e = (
  e.procedure,
  e.owns.frame.there,
  each-map (owed_by p e.procedure) (evaluate k.fixed.slots w.slots) (evaluate k.fixed.slots all.slots)
      (λ i a h part s. sat-everywhere a k.fixed.slots all w r part q
      (λ x o. e.owns.variables.each x
      (owed-variable p formed k.fixed.procedure e.procedure e.owns.frame.there i a h x o)) s) w.cells e.posts,
)

-- the invariant of a free resource holds of its share
sat-free : (p : Program) → IsFormed p → (r : ResId) (all w rest : Own) (q : Resource) → Parts all w rest
    → FreeShare p r w → slice_get p.resources r.0 ≡ Some q
    → Sat q.invariant.level (evaluate entry_slot all.slots) (λ n. nil) w.cells
sat-free p formed r all w rest q parts s there =
    let same : s.resource ≡ q = same_Some s.resource q (sym s.there ∙ there) in
    subst (λ z. Sat z.invariant.level (evaluate entry_slot all.slots) (λ n. nil) w.cells) same
    (sat-everywhere s.resource.invariant.level entry_slot all w rest w.cells parts
    (λ x o. s.variables.each x
    (level_within p.fields (IsOfResource r.0 (length s.resource.variables)) [] x s.resource.invariant.level
    (formed.resources r.0 s.resource s.there).annotation.within o)) s.invariant)

-- THE PARTS of a good configuration

abbrev Everything : Heap → Type 0
Everything h = Unit {0}

plus-zero : (n : ℕ) → n + 0 ≡ n
plus-zero n = omega arith

zero-plus : (n : ℕ) → n ≡ 0 + n
zero-plus n = omega arith

plus-suc : (n i : ℕ) → n + suc i ≡ suc n + i
plus-suc n i = omega arith

module _ (p : Program) (formed : IsFormed p) where
  parts-resources : (s : Common) (m : ℕ) (rs : List Resource) (w r : Own)
      → ((i : ℕ) (q : Resource) → slice_get rs i ≡ Some q → slice_get p.resources (m + i) ≡ Some q)
      → Parts (everything p s) w r → Resources p s.held m rs w → InvariantParts s.store s.held m rs w.cells
  parts-resources s m [] w r at q f = record { none = λ a. ap (λ (z : Own). z.cells a) f }
  parts-resources s m (o ∷ rs) w r at q f =
      let a = opened (f.left ∷ f.right ∷ []) (r ∷ []) (two q) (two f.parts) in
      let b = order (1 ∷ []) (f.left ∷ f.right ∷ r ∷ []) (everything p s) a in
      record {
        left = f.left.cells;
        right = f.right.cells;
        splits = f.parts.cells;
        first = go (s.held (record { 0 = m })) f.first a.0 a.1;
        second = parts-resources s (suc m) rs f.right b.0
            (λ i x e. subst (λ z. slice_get p.resources z ≡ Some x) (plus-suc m i) (at (suc i) x e)) b.1 f.second;
      }
    where
      go : (h : Option Path) → ShareOf p h (record { 0 = m }) f.left → (x : Own)
          → Parts (everything p s) f.left x → InvariantPart s.store h o f.left.cells
      go None i x j = sat-free p formed (record { 0 = m }) (everything p s) f.left x o j i
          (subst (λ z. slice_get p.resources z ≡ Some o) (plus-zero m) (at 0 o refl))
      go (Some path) i x j = record { none = λ a. ap (λ (z : Own). z.cells a) i }

  -- nothing is owed here, and the rest is anything
  nowhere : (P : Heap → Type 0) (h : Heap) → P (λ a. None) → (heaps.◌⋆◌ P Everything) h
  nowhere P h e = record {
    left = λ a. None;
    right = h;
    splits = record { apart = λ a. tt; is = λ a. refl };
    first = e;
    second = tt;
  }

  frame-part : (n : ℕ) (k : Known) (todo : List Item) (s : Common) (w r : Own) → Parts (everything p s) w r
      → Safe p (suc n) k todo w → (h u : Heap) → Splits h w.cells u
      → (heaps.◌⋆◌ (FramePart p s.store k.fixed todo) Everything) h
  frame-part n k [] s w r q a h u j = record {
    left = w.cells;
    right = u;
    splits = j;
    first = sat-ended p formed k (everything p s) w r q a;
    second = tt;
  }
  frame-part n k (i ∷ rest) s w r q a h u j = nowhere (FramePart p s.store k.fixed (i ∷ rest)) h empty-holds

  parts-tasks : (n : ℕ) (s : Common) (t : Task) (o : Known) (w r : Own) → Parts (everything p s) w r
      → Tree p (suc n) o t w → (heaps.◌⋆◌ (TaskParts p s.store t) Everything) w.cells
  parts-tasks n s (runs []) o w r q a = nowhere (TaskParts p s.store (runs [])) w.cells empty-holds
  parts-tasks n s (runs (f ∷ below)) o w r q (v, a) =
      let b = parts-right a.parts q in
      frame-part n (known f v) f.todo s a.left _ b.1 a.first w.cells a.right.cells a.parts.cells
  parts-tasks n s (waits frames x y) o w r q (g, h, a) =
      let b = opened (a.second.left ∷ a.second.right ∷ []) (a.left ∷ r ∷ [])
      (order (1 ∷ []) (a.left ∷ a.right ∷ r ∷ []) (everything p s)
      (opened (a.left ∷ a.right ∷ []) (r ∷ []) (two q) (two a.parts))) (two a.second.parts) in
      let c = order (1 ∷ []) (a.second.left ∷ a.second.right ∷ a.left ∷ r ∷ []) (everything p s) b in
      let one = parts-tasks n s x g a.second.left b.0 b.1 a.second.first in
      let other = parts-tasks n s y h a.second.right c.0 c.1 a.second.second in
      -- the two children's heaps, each in its part and what is left, and the parent's
      let m = splits-cross one.splits other.splits a.second.parts.cells in
      let l = splits-assoc_right m.2 (splits-comm a.parts.cells) in
      record {
        left = _;
        right = _;
        splits = l.1;
        first = record { left = one.left; right = other.left; splits = m.0; first = one.first; second = other.first };
        second = tt;
      }

  -- THE END of the entry

  pub record AtEnd (n : ℕ) (t : Task) (w : Own) : Type 0 where
    pub frame : Frame
    pub values : ℕ → _
    pub is : t ≡ runs (frame ∷ [])
    pub done : frame.todo ≡ []
    pub ended : Ended p (known frame values) w
    -- its procedure doesn't set the resources up
    pub plain : is_init ended.procedure ≡ false

  at-end : (n : ℕ) (o : Known) (t : Task) (w : Own) → sets_up p o.fixed.procedure ≡ false → HasEnded [] t → HasFrame t
      → Tree p (suc n) o t w → AtEnd n t w
  at-end n o (runs []) w other e d a = absurd d
  at-end n o (runs (f ∷ g ∷ fs)) w other e d a = absurd e
  at-end n o (waits fs x y) w other e d a = absurd e
  at-end n o (runs (f ∷ [])) w other e d (v, a) =
      let safe : Ended p (known f v) a.left = subst (λ z. Safe p (suc n) (known f v) z a.left) e a.first in
      let same = parts-of_nothing (subst (Parts w a.left) a.second.1 a.parts) in
      let ended : Ended p (known f v) w = subst (Ended p (known f v)) (sym same) safe in
      record {
        frame = f;
        values = v;
        is = refl;
        done = e;
        ended = ended;
        plain = sym (sets_up-is p f.fixed.procedure ended.procedure ended.owns.frame.there)
            ∙ ap (λ (z : Known). sets_up p z.fixed.procedure) a.second.0 ∙ other;
      }

  one-token : (r q : ℕ) → cond {A = Option (Unit {0})} (q == r) (Some tt) None ≢ None → q == r ≡ true
  one-token r q n = go (q == r) n
    where
      go : (b : Bool) → cond {A = Option (Unit {0})} b (Some tt) None ≢ None → b ≡ true
      go true n = refl
      go false n = absurd (n refl)

  -- a resource whose token is with the free ones is free
  is-free : (held : ResId → Option Path) (m : ℕ) (rs : List Resource) (w : Own) (r : ResId)
      → Resources p held m rs w
      → w.tokens r ≢ None → held r ≡ None
  is-free held m [] w r f h = absurd (h (ap (λ (z : Own). z.tokens r) f))
  is-free held m (o ∷ rs) w r f h = go (f.left.tokens r) refl (λ x. is-free held (suc m) rs f.right r f.second x)
    where
      here_ : (x : Option Path) → held (record { 0 = m }) ≡ x → ShareOf p x (record { 0 = m }) f.left
          → f.left.tokens r ≢ None → held r ≡ None
      here_ None e i x =
          let same = resource-same r (record { 0 = m })
          (one-token m r.0 (λ z. x (ap (λ (y : _). y r) i.tokens ∙ z))) in
          ap held same ∙ e
      here_ (Some path) e i x = absurd (x (ap (λ (z : Own). z.tokens r) i))

      go : (o : Option (Unit {0})) → f.left.tokens r ≡ o → (f.right.tokens r ≢ None → held r ≡ None)
          → held r ≡ None
      go None e ih = ih (λ z. h (f.parts.tokens.is r ∙ ap₂ option_or e z))
      go (Some x) e ih = here_ (held (record { 0 = m })) refl f.first
          (λ z. let a : Some x ≡ None = sym e ∙ z in absurd (cc))

  below : (r n : ℕ) → r < n → ltb r n ≡ true
  below r n h = grind (arith, nat_tests)

  token : (b : Bool) → b ≡ true → cond {A = Option (Unit {0})} b (Some tt) None ≡ None → ⊥
  token true i e = absurd (cc)
  token false i e = absurd (cc)

  ends-well : (n : ℕ) (o : Known) (c : Config) → IsOwned p (suc n) o c → HasEnded [] c.tasks → EndsWell p c
  ends-well n o c s e =
      let a = at-end n o c.tasks s.tasks s.plain e s.stays s.tree in
      record {
        frame = a.frame;
        alone = a.is;
        procedure = a.ended.procedure;
        there = a.ended.owns.frame.there;
        free = λ r of there. is-free c.common.held 0 p.resources s.free r s.resources (λ z.
            let x : (everything p c.common).tokens r ≡ None =
            s.parts.tokens.is r ∙ ap₂ option_or (a.ended.owns.tokens r
            ∙ ap (λ b. cond {A = Option (Unit {0})} (b && ltb r.0 (length p.resources)) (Some tt) None) a.plain) z in
            token (ltb r.0 (length p.resources))
            (below r.0 (length p.resources) (slice_get_within p.resources r.0 of there)) x);
      }

  -- the tasks' parts, and what is in none of them: nothing, where the entry has ended
  ended-or-not : (t : Task) → HasEnded [] t ⊎ (HasEnded [] t → ⊥)
  ended-or-not (runs []) = inl tt
  ended-or-not (runs (f ∷ [])) = go f.todo
    where
      go : (todo : List Item) → (todo ≡ []) ⊎ (todo ≡ [] → ⊥)
      go [] = inl refl
      go (i ∷ rest) = inr (λ e. absurd (cc))
  ended-or-not (runs (f ∷ g ∷ below)) = inr (λ e. e)
  ended-or-not (waits frames one two) = inr (λ e. e)

  parts-end : (n : ℕ) (c : Config) (w r : Own) → Parts (everything p c.common) w r → AtEnd n c.tasks w
      → TaskParts p c.common.store c.tasks w.cells
  parts-end n c w r q a =
      subst (λ z. TaskParts p c.common.store z w.cells) (sym a.is)
      (subst (λ z. FramePart p c.common.store a.frame.fixed z w.cells) (sym a.done)
      (sat-ended p formed (known a.frame a.values) (everything p c.common) w r q a.ended))

  parts-rest : (n : ℕ) (o : Known) (c : Config) (s : IsOwned p (suc n) o c)
      → (heaps.◌⋆◌ (TaskParts p c.common.store c.tasks) (RestPart c)) s.tasks.cells
  parts-rest n o c s = elim (ended-or-not c.tasks) [
    | inl e ↦ record {
      left = s.tasks.cells;
      right = λ a. None;
      splits = splits-empty_right empty-holds;
      first = parts-end n c s.tasks s.free s.parts (at-end n o c.tasks s.tasks s.plain e s.stays s.tree);
      second = λ i. empty-holds;
    }
    | inr e ↦ let a = parts-tasks n c.common c.tasks o s.tasks s.free s.parts s.tree in record {
      left = a.left;
      right = a.right;
      splits = a.splits;
      first = a.first;
      second = λ i. absurd (e i);
    }
  ]

  -- what is owned, for an event more, is good
  pub good-owned : (n : ℕ) (o : Known) (c : Config) → IsOwned p (suc n) o c → Good p c
  good-owned n o c s = good-by_parts p c (never-bad p n o c s)
      (record {
        left = s.free.cells;
        right = s.tasks.cells;
        splits = splits-comm s.parts.cells;
        first = parts-resources c.common 0 p.resources s.free s.tasks
            (λ i q e. subst (λ z. slice_get p.resources z ≡ Some q) (zero-plus i) e)
            (parts-comm s.parts) s.resources;
        second = parts-rest n o c s;
      })
      (ends-well n o c s)
