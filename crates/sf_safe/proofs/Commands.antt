-- Events of one frame alone: what they do to everything they do to the frame's share.
-- Names: the command's.
use Rattle.std.specs.Prelude.{◌≡◌, ◌≢◌, ℕ, suc, Bool, true, false, cond, List, ◌∷◌, Some, None}
use Rattle.std.proofs.Common.{sym, ap, ap₂, ◌∙◌, refl, subst, inl, inr}
use Rattle.sf_base.specs.declared.ids.FieldId.{FieldId}
use Rattle.sf_base.specs.declared.place.Place.{Place}
use Rattle.sf_base.specs.declared.value.Value.{Value}
use Rattle.sf_base.specs.declared.value.Value.TheVariants.{Loc as loc}
use Rattle.sf_base.specs.HeapStore.{Slot, Store, put_field, same_slot}
use Rattle.sf_base.proofs.MapSplits.{splits-has_left, splits-lacks_both}
use Rattle.sf_base.proofs.StoreSplits.{slot-same}
use Rattle.sf_core.specs.declared.assertion.Test.{Test}
use Rattle.sf_core.specs.declared.command.Expr.{Expr}
use Rattle.sf_core.specs.declared.command.Occurrence.{Occurrence}
use Rattle.sf_core.specs.Machine.Config.{Item, command, Frame, Task, Common, evaluate}
use Rattle.sf_core.specs.Machine.Step.{Event, Does, task_with, Chooses}
use Rattle.sf_core.specs.Program.Syntax.{assign, look_up, mutate, new, dispose, Program}
use Rattle.sf_safe.specs.Checked.Own.{Own, Parts, everything, put_cell, put_slot}
use Rattle.sf_safe.specs.Checked.Contract.{Known, see}
use Rattle.sf_safe.specs.Checked.Safe.{Safe, Branches}
use Rattle.sf_safe.specs.Checked.Owns.{parts-new_cell, parts-put_cell, parts-put_slot}
use Rattle.sf_safe.specs.Checked.Seen.{seen-cell, seen-test, seen-value}

-- after such an event: the frame's items, its share beside the rest r, and that it is safe for one event less;
-- nobody enters or leaves a region, and no slot comes up
pub record Moved (p : Program) (n : ℕ) (k : Known) (below : List Frame) (s t : Common) (u : Task) (r : Own)
    : Type 0 where
  pub todo : List Item
  pub is : u ≡ task_with k.fixed todo below
  pub held : t.held ≡ s.held
  pub old : (slot : Slot) → t.store slot ≢ None → s.store slot ≢ None
  pub part : Own
  pub parts : Parts (everything p t) part r
  pub safe : Safe p n k todo part

-- a slot that is written was there
put-old : (store : Store) (slot : Slot) (v : Value) → (old : Value) × (store slot ≡ Some old) → (other : Slot)
    → cond (same_slot other slot) (Some v) (store other) ≢ None → store other ≢ None
put-old store slot v there other h e = h (go (same_slot other slot) refl)
  where
    go : (b : Bool) → same_slot other slot ≡ b → cond b (Some v) (store other) ≡ None
    go true i =
        let a : Some there.0 ≡ None = sym there.1 ∙ ap store (sym (slot-same slot other i)) ∙ e in absurd (cc)
    go false i = e

module _ (p : Program) (n : ℕ) (k : Known) (ev : Event) (below : List Frame) (rest : List Item) (s t : Common)
    (task : Task) (u r : Own) (parts : Parts (everything p s) u r) where
  abbrev After : Type 0
  After = Moved p n k below s t task r

  pub assigned : (place : Place) (x : Occurrence) (e : Expr)
      → Safe p (suc n) k (command (assign place x e) ∷ rest) u
      → Does p ev s k.fixed below (assign place x e) rest t task → After
  assigned place x e a d =
      let same = seen-value k.fixed.slots (everything p s) u r parts e a.1 in
      record {
        todo = rest;
        is = d.1;
        held = ap (λ z. z.held) d.0;
        old = subst (λ (z : Common). (slot : Slot) → z.store slot ≢ None → s.store slot ≢ None) (sym d.0)
            (put-old s.store (k.fixed.slots x.var) (evaluate k.fixed.slots s.store e)
            (a.0.0, splits-has_left (k.fixed.slots x.var) a.0.0 parts.slots a.0.1));
        part = put_slot (k.fixed.slots x.var) (see k u e) u;
        parts = subst (λ z. Parts (everything p z) (put_slot (k.fixed.slots x.var) (see k u e) u) r) (sym d.0)
            (subst (λ z. Parts (put_slot (k.fixed.slots x.var) z (everything p s))
            (put_slot (k.fixed.slots x.var) (see k u e) u) r) (sym same)
            (parts-put_slot (k.fixed.slots x.var) (see k u e) a.0 parts));
        safe = a.2;
      }

  pub looked_up : (place : Place) (x : Occurrence) (e : Expr) (field : FieldId)
      → Safe p (suc n) k (command (look_up place x e field) ∷ rest) u
      → Does p ev s k.fixed below (look_up place x e field) rest t task → After
  looked_up place x e field a d =
      let at = a.1 in
      let slot = k.fixed.slots x.var in
      let same = (seen-cell k.fixed.slots (everything p s) u r parts e d.0 at.location d.1 at.cell at.reads d.2
      at.finds).1 in
      record {
        todo = rest;
        is = d.4;
        held = ap (λ z. z.held) d.3;
        old = subst (λ (z : Common). (slot : Slot) → z.store slot ≢ None → s.store slot ≢ None) (sym d.3)
            (put-old s.store slot (d.1 field.0)
            (a.0.0, splits-has_left slot a.0.0 parts.slots a.0.1));
        part = put_slot slot (at.cell field.0) u;
        parts = subst (λ z. Parts (everything p z) (put_slot slot (at.cell field.0) u) r) (sym d.3)
            (subst (λ z. Parts (put_slot slot (z field.0) (everything p s)) (put_slot slot (at.cell field.0) u) r)
            same (parts-put_slot slot (at.cell field.0) a.0 parts));
        safe = a.2;
      }

  pub mutated : (place : Place) (e : Expr) (field : FieldId) (v : Expr)
      → Safe p (suc n) k (command (mutate place e field v) ∷ rest) u
      → Does p ev s k.fixed below (mutate place e field v) rest t task → After
  mutated place e field v a d =
      let at = a.1 in
      let same = seen-cell k.fixed.slots (everything p s) u r parts e d.0 at.location d.1 at.cell at.reads d.2
      at.finds in
      let value = seen-value k.fixed.slots (everything p s) u r parts v a.0 in
      let cell = ap₂ (λ z y. Some (put_field z field.0 y)) same.1 (sym value) in
      let new_ = put_cell at.location (Some (put_field at.cell field.0 (see k u v))) in
      record {
        todo = rest;
        is = d.4;
        held = ap (λ z. z.held) d.3;
        old = subst (λ (z : Common). (slot : Slot) → z.store slot ≢ None → s.store slot ≢ None) (sym d.3)
            (λ slot h. h);
        part = new_ u;
        parts = subst (λ z. Parts (everything p z) (new_ u) r) (sym d.3)
            (subst (λ z. Parts z (new_ u) r) (ap₂ (λ l c. put_cell l c (everything p s)) same.0 cell)
            (parts-put_cell at.location at.cell (Some (put_field at.cell field.0 (see k u v)))
            at.finds.there parts));
        safe = a.2;
      }

  pub made : (place : Place) (x : Occurrence) → Safe p (suc n) k (command (new place x) ∷ rest) u
      → Does p ev s k.fixed below (new place x) rest t task → After
  made place x a d =
      let slot = k.fixed.slots x.var in
      record {
        todo = rest;
        is = d.3;
        held = ap (λ z. z.held) d.2;
        old = subst (λ (z : Common). (slot : Slot) → z.store slot ≢ None → s.store slot ≢ None) (sym d.2)
            (put-old s.store slot (loc ev.at) (a.0.0, splits-has_left slot a.0.0 parts.slots a.0.1));
        part = put_slot slot (loc ev.at) (put_cell ev.at (Some ev.fields) u);
        parts = subst
            (λ z. Parts (everything p z) (put_slot slot (loc ev.at) (put_cell ev.at (Some ev.fields) u)) r)
            (sym d.2)
            (parts-put_slot slot (loc ev.at) a.0 (parts-new_cell ev.at (Some ev.fields) d.1 parts));
        safe = a.1 ev.at ev.fields d.0 (splits-lacks_both ev.at parts.cells d.1).0;
      }

  pub disposed : (place : Place) (e : Expr) → Safe p (suc n) k (command (dispose place e) ∷ rest) u
      → Does p ev s k.fixed below (dispose place e) rest t task → After
  disposed place e a d =
      let at = a.0 in
      let same = (seen-cell k.fixed.slots (everything p s) u r parts e d.0 at.location d.1 at.cell at.reads d.2
      at.finds).0 in
      record {
        todo = rest;
        is = d.4;
        held = ap (λ z. z.held) d.3;
        old = subst (λ (z : Common). (slot : Slot) → z.store slot ≢ None → s.store slot ≢ None) (sym d.3)
            (λ slot h. h);
        part = put_cell at.location None u;
        parts = subst (λ z. Parts (everything p z) (put_cell at.location None u) r) (sym d.3)
            (subst (λ z. Parts (put_cell z None (everything p s)) (put_cell at.location None u) r) same
            (parts-put_cell at.location at.cell None at.finds.there parts));
        safe = a.1;
      }

  -- a test that goes one way in the whole goes that way in the share
  pub tested : (test : Test Expr) (this that : List Item)
      → Branches k u test (Safe p n k this u) (Safe p n k that u) → t ≡ s
      → Chooses (evaluate k.fixed.slots s.store) test (task_with k.fixed this below)
      (task_with k.fixed that below) task → After
  tested test this that a i d =
      let same = seen-test k.fixed.slots (everything p s) u r parts test a.reads in
      elim d [
        | inl e ↦ go this e.1 (a.this (subst (λ z. z) same e.0))
        | inr e ↦ go that e.1 (a.that (λ h. e.0 (subst (λ z. z) (sym same) h)))
      ]
    where
      go : (todo : List Item) → task ≡ task_with k.fixed todo below → Safe p n k todo u → After
      go todo e f = record {
        todo = todo;
        is = e;
        held = ap (λ z. z.held) i;
        old = subst (λ (z : Common). (slot : Slot) → z.store slot ≢ None → s.store slot ≢ None) (sym i)
            (λ slot h. h);
        part = u;
        parts = subst (λ z. Parts (everything p z) u r) (sym i) parts;
        safe = f;
      }
