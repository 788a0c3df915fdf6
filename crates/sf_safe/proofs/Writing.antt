-- A body that isn't safe for one event.
-- Names: the law's.
use Rattle.std.specs.Prelude.{◌≡◌, ◌⊎◌, ℕ, zero, suc, Bool, slice_get, true, false, cond, [], ◌∷◌, Option, Some, None, ◌<◌, ◌≤◌, ◌+◌, ◌-◌}
use Rattle.std.proofs.Common.{true≢false, sym, ap, ◌∙◌, refl, subst, inl, inr, arith}
use Rattle.std.proofs.lemmas.Option.{none-some, same_Some}
use Rattle.sf_base.specs.declared.ids.ProcId.{ProcId}
use Rattle.sf_base.specs.declared.ids.ResId.{ResId}
use Rattle.sf_base.specs.declared.ids.Var.{Var}
use Rattle.sf_base.specs.declared.ids.Var.TheVariants.{Own as OwnVar, Shared}
use Rattle.sf_base.specs.declared.value.Value.{Value}
use Rattle.sf_base.specs.declared.value.Value.TheVariants.{Nil as nil}
use Rattle.sf_base.specs.HeapStore.{Cell, Slot, own, same_slot}
use Rattle.sf_base.proofs.Elements.{contains-nil}
use Rattle.sf_base.proofs.MapSplits.{empty-holds}
use Rattle.sf_base.proofs.StoreSplits.{slot-same}
use Rattle.sf_calls.specs.Conditions.{Calls, Free, FreeIn, Mentions}
use Rattle.sf_calls.specs.Reaches.{directly, through}
use Rattle.sf_calls.specs.Outside.{CallsIn, OccursOutside}
use Rattle.sf_calls.specs.Checked.Lemmas.Sites.{at_one}
use Rattle.sf_core.specs.Assertions.Occurs.{VarOccursIn}
use Rattle.sf_core.specs.Assertions.Sat.{Sat}
use Rattle.sf_core.specs.Checked.Machine.Examples.{emp, one_in}
use Rattle.sf_core.specs.Machine.Start.{entry_frame, entry_slot}
use Rattle.sf_core.specs.Program.Heads.{sites}
use Rattle.sf_core.specs.Program.Syntax.{Procedure}
use Rattle.sf_safe.specs.Checked.Own.{HasSlot, Own}
use Rattle.sf_safe.specs.Checked.Contract.{Entered, IsFrameOf, IsVariableOf, Known, see}
use Rattle.sf_safe.specs.Checked.Examples.{WritingIsNotSafe, writes, writing}

abbrev first : ProcId
first = record { 0 = 0 }

-- the program's one procedure
only-one : (k : ℕ) (g : Procedure) → slice_get (writes ∷ []) k ≡ Some g → writes ≡ g
only-one zero g e = same_Some writes g e
only-one (suc k) g e = absurd (cc)

-- it uses no variable of a resource
emp-empty : (x : Var) → VarOccursIn emp.level x → ⊥
emp-empty x o = o.2.0

body-own : (r : ResId) (i : ℕ) → OccursOutside (Shared r i) writes.body → ⊥
body-own r i o = elim (at_one _ (sites [] writes.body) o) [
  | inl h ↦ elim h.1 [ inl e ↦ absurd (cc) | inr e ↦ e ]
  | inr e ↦ e
]

mentions-none : (f : ProcId) (r : ResId) (i : ℕ) → Mentions writing (Shared r i) f → ⊥
mentions-none f r i (h, there, o) = go (subst
    (λ z. VarOccursIn z.pre.level (Shared r i) ⊎ (VarOccursIn z.post.level (Shared r i) ⊎ OccursOutside (Shared r i) z.body))
    (sym (only-one f.0 h there)) o)
  where
    go : VarOccursIn emp.level (Shared r i) ⊎ (VarOccursIn emp.level (Shared r i)
        ⊎ OccursOutside (Shared r i) writes.body) → ⊥
    go (inl a) = emp-empty (Shared r i) a
    go (inr (inl a)) = emp-empty (Shared r i) a
    go (inr (inr a)) = body-own r i a

calls-none : (but : Option ResId) (f g : ProcId) → Calls writing but f g → ⊥
calls-none but f g (h, there, c) =
    elim (at_one _ (sites [] writes.body) (subst (λ z. CallsIn but g z.body) (sym (only-one f.0 h there)) c)) [
      | inl a ↦ contains-nil a.1.0 a.1.1
      | inr a ↦ a
    ]

free-none : (f : ProcId) (r : ResId) (i : ℕ) → Free writing f (Shared r i) → ⊥
free-none f r i (shared_, m) = go m
  where
    go : FreeIn writing f (Shared r i) → ⊥
    go (directly m) = mentions-none f r i m
    go (through g c m) = calls-none (Some r) f g c

-- a frame that may begin: its variable is nil, and it has no cell
abbrev begun : Known
begun = record { fixed = (entry_frame first writes).fixed; values = λ i. nil }

abbrev begun_share : Own
begun_share = record { cells = λ a. None; slots = one_in nil; tokens = λ r. None }

below-one : (i : ℕ) → i < 1 → i ≡ 0
below-one i l = omega (arith, l)

none-local : (i : ℕ) → 1 ≤ i → i < 1 → ⊥
none-local i l m = omega (arith, l, m)

own-slots : (i : ℕ) → 1 ≤ i → i < 1 → own 0 i ≡ own 0 (1 + (i - 1))
own-slots i l m = absurd (none-local i l m)

shared-none : (r : ResId) (i : ℕ) → IsVariableOf writing first writes (Shared r i) → ⊥
shared-none r i (inl a) = free-none first r i a
shared-none r i (inr a) = true≢false (sym a.0)

frame-apart : (x y : Var) → IsVariableOf writing first writes x → IsVariableOf writing first writes y
    → entry_slot x ≡ entry_slot y → x ≡ y
frame-apart (OwnVar i) (OwnVar j) a b e = cc
frame-apart (OwnVar i) (Shared q j) a b e = absurd (shared-none q j b)
frame-apart (Shared r i) y a b e = absurd (shared-none r i a)

slots-each : (x : Var) → IsVariableOf writing first writes x → HasSlot begun_share (entry_slot x)
slots-each (OwnVar i) l = (nil, ap (λ z. one_in nil (own 0 z)) (below-one i l))
slots-each (Shared r i) a = absurd (shared-none r i a)

cond-true : (b : Bool) (x : Option Value) (v : Value) → cond b x None ≡ Some v → b ≡ true
cond-true true x v e = refl
cond-true false x v e = absurd (cc)

slots-only : (slot : Slot) (v : Value) → one_in nil slot ≡ Some v
    → (x : Var) × IsVariableOf writing first writes x × (entry_slot x ≡ slot)
slots-only slot v e =
    let l : 0 < 1 = omega arith in
    (OwnVar 0, l, sym (slot-same (own 0 0) slot (cond-true (same_slot slot (own 0 0)) (Some nil) v e)))

framed : IsFrameOf writing begun.fixed writes
framed = record {
  there = refl;
  count = refl;
  own_slots = own-slots;
  shared_slots = λ r i. refl;
  apart = frame-apart;
}

entered : Entered writing begun begun_share
entered = record {
  procedure = writes;
  owns = record {
    frame = framed;
    variables = record { each = slots-each; only = slots-only };
    tokens = λ r. refl;
    values = λ i l. let e : ⊥ = omega (arith, l) in absurd e;
  };
  locals = λ i l m. absurd (none-local i l m);
  unset = λ r i a. absurd (true≢false (sym a.0));
  pre = ((λ n. nil), (λ n e. refl), empty-holds);
}

-- what its precondition says has no cell
no-cell : (k : Known) (w : Own) (a : ℕ) (c : Cell) → Entered writing k w → w.cells a ≡ Some c → ⊥
no-cell k w a c e there =
    let is = only-one k.fixed.procedure.0 e.procedure e.owns.frame.there in
    let pre = subst (λ z. Sat z.pre.level (see k w) (λ n. nil) w.cells) (sym is) e.pre in
    none-some c (sym (pre.2.none a) ∙ there)

pub writing_is_not_safe : WritingIsNotSafe
writing_is_not_safe = record {
  known = begun;
  owned = begun_share;
  begins = entered;
  unsafe = λ k w e s. no-cell k w s.1.location s.1.cell e s.1.finds.there;
}
