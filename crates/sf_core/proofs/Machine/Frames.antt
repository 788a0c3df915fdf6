-- That a step of a part is one of the whole and leaves the rest, and the other way round.
-- Names: `WHAT-no_cell` reads no cell, `WHAT-finds` finds its cell, `part-LAW` speaks of a part of a whole.
use Rattle.std.specs.Prelude.{◌≡◌, ℕ, List, [], ◌∷◌, Option, Some, None, ◌⊎◌}
use Rattle.std.specs.Option.{option_or}
use Rattle.std.proofs.Common.{sym, ap, ◌∙◌, refl, subst, inl, inr}
use Rattle.sf_base.proofs.MapSplits.{splits-at_left, splits-has_left, splits-lacks_both, splits-lacks_right, splits-lacks_whole}
use Rattle.sf_base.specs.declared.ids.Var.{Var}
use Rattle.sf_base.specs.declared.value.Value.{Value}
use Rattle.sf_base.specs.declared.value.Value.TheVariants.{Nil as nil, Int as int, Loc as loc}
use Rattle.sf_core.specs.declared.assertion.Test.{Test}
use Rattle.sf_core.specs.declared.assertion.Test.TheVariants.{True, Equal, Differ}
use Rattle.sf_core.specs.declared.command.Expr.{Expr}
use Rattle.sf_core.specs.declared.command.Expr.TheVariants.{Var as Variable, Nil, Int}
use Rattle.sf_base.specs.HeapStore.{Apart, Cell, Heap, Slot, Store}
use Rattle.sf_core.specs.Machine.Bad.{IsAbsent, TouchesNoCell, IsAtNoCell}
use Rattle.sf_core.specs.Machine.Config.{Fixed, Frame, Item, Task, Common, evaluate}
use Rattle.sf_core.specs.Machine.Next.{Next, does, leaves, returns, joins, nothing}
use Rattle.sf_core.specs.Machine.Enabled.{Thing, variable, cell, ReadsExpr, ReadsTest, ReadsAll, IsCellAt, CommandReads, CommandWrites, Reads, Writes}
use Rattle.sf_core.specs.Checked.Machine.Laws.{Makes, AgreeOn, AgreesOnReads, AgreesAfter, HasPart, IsOfPart, KeepsRest}
use Rattle.sf_core.specs.Machine.Step.{Event, Does, Goes}
use Rattle.sf_core.specs.Program.Syntax.{Command, assign, look_up, mutate, new, dispose, if, while, call, fork, with, Program}
use Rattle.sf_core.proofs.Machine.Commute.{footprint-leaves, reads-back, writes-back}
use Rattle.sf_core.proofs.Machine.Decided.{changes-or_not}
use Rattle.sf_core.proofs.Machine.Determinism.{goes-unique}
use Rattle.sf_core.proofs.Machine.Locality.{goes-local}
use Rattle.sf_core.proofs.Machine.Progress.{finds-not_absent}
use Rattle.sf_core.proofs.Machine.Steps.{absent-by_next, next-footprint}

-- What is evaluated is no cell
expr-no_cell : (slots : Var → Slot) (e : Expr) (a : ℕ) → ReadsExpr slots e (cell a) → ⊥
expr-no_cell slots (Variable x) a r = absurd (cc)
expr-no_cell slots Nil a r = r
expr-no_cell slots (Int i) a r = r

test-no_cell : (slots : Var → Slot) (test : Test Expr) (a : ℕ) → ReadsTest slots test (cell a) → ⊥
test-no_cell slots True a r = r
test-no_cell slots (Equal x y) a r = elim r [ inl h ↦ expr-no_cell slots x a h | inr h ↦ expr-no_cell slots y a h ]
test-no_cell slots (Differ x y) a r = elim r [ inl h ↦ expr-no_cell slots x a h | inr h ↦ expr-no_cell slots y a h ]

all-no_cell : (slots : Var → Slot) (es : List Expr) (a : ℕ) → ReadsAll slots es (cell a) → ⊥
all-no_cell slots [] a r = r
all-no_cell slots (e ∷ es) a r = elim r [ inl h ↦ expr-no_cell slots e a h | inr h ↦ all-no_cell slots es a h ]

-- The cells that an event reads or writes are there
at-finds : (heap : Heap) (v : Value) (a : ℕ) → (IsAbsent heap v → ⊥) → IsCellAt v (cell a)
    → (k : Cell) × (heap a ≡ Some k)
at-finds heap nil a n h = absurd h
at-finds heap (int i) a n h = absurd h
at-finds heap (loc b) a n h = go (heap b) refl
  where
    go : (o : Option Cell) → heap b ≡ o → (k : Cell) × (heap a ≡ Some k)
    go None e = absurd (n e)
    go (Some k) e = let same : a ≡ b = cc in (k, ap heap same ∙ e)

reads-finds : (s : Common) (f : Fixed) (c : Command) (a : ℕ)
    → (TouchesNoCell (evaluate f.slots s.store) s.heap c → ⊥)
    → CommandReads f.slots s.store c (cell a) → (k : Cell) × (s.heap a ≡ Some k)
reads-finds s f (look_up place x e g) a n (inl r) = absurd (expr-no_cell f.slots e a r)
reads-finds s f (look_up place x e g) a n (inr r) = at-finds s.heap (evaluate f.slots s.store e) a n r
reads-finds s f (assign place x e) a n r = absurd (expr-no_cell f.slots e a r)
reads-finds s f (mutate place e g v) a n (inl r) = absurd (expr-no_cell f.slots e a r)
reads-finds s f (mutate place e g v) a n (inr r) = absurd (expr-no_cell f.slots v a r)
reads-finds s f (new place x) a n r = absurd r
reads-finds s f (dispose place e) a n r = absurd (expr-no_cell f.slots e a r)
reads-finds s f (if place test this that) a n r = absurd (test-no_cell f.slots test a r)
reads-finds s f (while place test kept body) a n r = absurd (test-no_cell f.slots test a r)
reads-finds s f (call place c) a n r = absurd (all-no_cell f.slots c.values a r)
reads-finds s f (fork place c d) a n (inl r) = absurd (all-no_cell f.slots c.values a r)
reads-finds s f (fork place c d) a n (inr r) = absurd (all-no_cell f.slots d.values a r)
reads-finds s f (with place q test body) a n r = absurd (test-no_cell f.slots test a r)

writes-finds : (s : Common) (f : Fixed) (c : Command) (a : ℕ)
    → (TouchesNoCell (evaluate f.slots s.store) s.heap c → ⊥)
    → CommandWrites f.slots s.store c (cell a) → (k : Cell) × (s.heap a ≡ Some k)
writes-finds s f (mutate place e g v) a n w = at-finds s.heap (evaluate f.slots s.store e) a n w
writes-finds s f (dispose place e) a n w = at-finds s.heap (evaluate f.slots s.store e) a n w
writes-finds s f (assign place x e) a n w = absurd (cc)
writes-finds s f (look_up place x e g) a n w = absurd (cc)
writes-finds s f (new place x) a n w = absurd (cc)
writes-finds s f (if place test this that) a n w = absurd w
writes-finds s f (while place test kept body) a n w = absurd w
writes-finds s f (call place c) a n w = absurd w
writes-finds s f (fork place c d) a n w = absurd w
writes-finds s f (with place q test body) a n w = absurd w

-- the cells that an event reads or writes are there where it isn't about to touch an absent one
pub next-finds : (s : Common) (n : Next) (a : ℕ) → (IsAtNoCell s n → ⊥)
    → Reads s.store n (cell a) ⊎ Writes s.store n (cell a) → (k : Cell) × (s.heap a ≡ Some k)
next-finds s (does f below c rest) a n (inl r) = reads-finds s f c a n r
next-finds s (does f below c rest) a n (inr w) = writes-finds s f c a n w
next-finds s (leaves f below q rest) a n h = elim h [ inl r ↦ absurd r | inr w ↦ absurd w ]
next-finds s (returns f below) a n h = elim h [ inl r ↦ absurd r | inr w ↦ absurd w ]
next-finds s (joins frames one two) a n h = elim h [ inl r ↦ absurd r | inr w ↦ absurd w ]
next-finds s nothing a n h = elim h [ inl r ↦ absurd r | inr w ↦ absurd w ]

does-not_at_no_cell : (p : Program) (ev : Event) (s t : Common) (f : Fixed) (below : List Frame) (c : Command)
    (rest : List Item) (u : Task) → Does p ev s f below c rest t u
    → TouchesNoCell (evaluate f.slots s.store) s.heap c → ⊥
does-not_at_no_cell p ev s t f below (look_up place x e g) rest u d h =
    finds-not_absent (evaluate f.slots s.store) s.heap e d.0 d.1 d.2 h
does-not_at_no_cell p ev s t f below (mutate place e g v) rest u d h =
    finds-not_absent (evaluate f.slots s.store) s.heap e d.0 d.1 d.2 h
does-not_at_no_cell p ev s t f below (dispose place e) rest u d h =
    finds-not_absent (evaluate f.slots s.store) s.heap e d.0 d.1 d.2 h
does-not_at_no_cell p ev s t f below _ rest u d h = absurd h

-- what has an event isn't about to touch an absent cell
pub goes-not_at_no_cell : (p : Program) (ev : Event) (s t : Common) (n : Next) (u : Task) → Goes p ev s n t u
    → IsAtNoCell s n → ⊥
goes-not_at_no_cell p ev s t (does f below c rest) u d h = does-not_at_no_cell p ev s t f below c rest u d h
goes-not_at_no_cell p ev s t (leaves f below q rest) u d h = h
goes-not_at_no_cell p ev s t (returns f below) u d h = h
goes-not_at_no_cell p ev s t (joins frames one two) u d h = h
goes-not_at_no_cell p ev s t nothing u d h = h

-- Splits, at one key
-- where the rest has nothing, a new entry of the part is that of the whole
at-changed : {X : Type 0} (x y z : Option X) → y ≡ x → z ≡ None → Apart x z × (y ≡ option_or x z)
at-changed None y z e n = (tt, e ∙ sym n)
at-changed (Some v) y z e n = (subst (λ r. Apart (Some v) r) (sym n) tt, e)

module _ (p : Program) (ev : Event) (whole part : Common) (cells : Heap) (variables : Store) (n : Next)
    (h : HasPart whole part cells variables) (o : IsOfPart p ev n whole part cells variables) where
  -- the variables that the event reads are the same in the whole
  part-vars : (slot : Slot) → Reads part.store n (variable slot) → part.store slot ≡ whole.store slot
  part-vars slot r = sym (splits-at_left slot h.stores (o.read slot r))

  -- a cell of the part is the whole's
  part-cell : (a : ℕ) → ((k : Cell) × (part.heap a ≡ Some k)) → part.heap a ≡ whole.heap a
  part-cell a k = k.1 ∙ sym (splits-has_left a k.0 h.heaps k.1)

  -- what it writes or makes the rest lacks
  rest-cell : (IsAtNoCell part n → ⊥) → (a : ℕ) → Writes part.store n (cell a) ⊎ Makes p ev n (cell a)
      → cells a ≡ None
  rest-cell safe a (inl w) = let k = next-finds part n a safe (inr w) in splits-lacks_right a k.0 h.heaps k.1
  rest-cell safe a (inr m) = o.made a m

  -- the whole splits after the event as before
  part-splits : (t w : Common) (u : Task) → (IsAtNoCell part n → ⊥) → Goes p ev part n t u
      → Goes p ev whole n w u → AgreesAfter p ev n part whole t w → HasPart w t cells variables
  part-splits t w u safe d e agrees = record {
    heaps = record { apart = λ a. (heap-at a).0; is = λ a. (heap-at a).1 };
    stores = record { apart = λ slot. (store-at slot).0; is = λ slot. (store-at slot).1 };
  }
    where
      -- what isn't changed in the part isn't in the whole
      unchanged : (thing : Thing) → (Writes part.store n thing ⊎ Makes p ev n thing → ⊥) → AgreeOn w whole thing
      unchanged thing x = footprint-leaves p ev n whole w (next-footprint p ev whole w n u e) thing
          (λ y. x (elim y [
            | inl z ↦ inl (writes-back part.store whole.store n part-vars thing z)
            | inr z ↦ inr z
          ]))

      heap-at : (a : ℕ) → Apart (t.heap a) (cells a) × (w.heap a ≡ option_or (t.heap a) (cells a))
      heap-at a = elim (changes-or_not p ev part.store n (cell a)) [
        | inl x ↦ at-changed (t.heap a) (w.heap a) (cells a) (sym (agrees.things (cell a) (inl x)))
            (rest-cell safe a x)
        | inr x ↦ let same : t.heap a ≡ part.heap a =
            footprint-leaves p ev n part t (next-footprint p ev part t n u d) (cell a) x in
            let also : w.heap a ≡ whole.heap a = unchanged (cell a) x in (
              subst (λ z. Apart z (cells a)) (sym same) (h.heaps.apart a),
              also ∙ h.heaps.is a ∙ ap (λ z. option_or z (cells a)) (sym same),
            )
      ]

      store-at : (slot : Slot) → Apart (t.store slot) (variables slot)
          × (w.store slot ≡ option_or (t.store slot) (variables slot))
      store-at slot = elim (changes-or_not p ev part.store n (variable slot)) [
        | inl x ↦ at-changed (t.store slot) (w.store slot) (variables slot)
            (sym (agrees.things (variable slot) (inl x))) (o.changed slot x)
        | inr x ↦ let same : t.store slot ≡ part.store slot =
            footprint-leaves p ev n part t (next-footprint p ev part t n u d) (variable slot) x in
            let also : w.store slot ≡ whole.store slot = unchanged (variable slot) x in (
              subst (λ z. Apart z (variables slot)) (sym same) (h.stores.apart slot),
              also ∙ h.stores.is slot ∙ ap (λ z. option_or z (variables slot)) (sym same),
            )
      ]

  part-keeps : (t w : Common) (u : Task) → (IsAtNoCell part n → ⊥) → Goes p ev part n t u
      → Goes p ev whole n w u → AgreesAfter p ev n part whole t w → KeepsRest p n whole w t cells variables
  part-keeps t w u safe d e agrees = record {
    splits = part-splits t w u safe d e agrees;
    moved = λ r m. sym (agrees.holders r (inl m));
    kept = (next-footprint p ev whole w n u e).kept;
  }

  -- the whole agrees with the part on what the event rests on
  part-agrees : (IsAtNoCell part n → ⊥) → ((a : ℕ) → Makes p ev n (cell a) → part.heap a ≡ None)
      → AgreesOnReads p ev n part whole
  part-agrees safe fresh = record { read = read; cells = touched; holders = o.holder }
    where
      read : (thing : Thing) → Reads part.store n thing → AgreeOn part whole thing
      read (variable slot) r = part-vars slot r
      read (cell a) r = part-cell a (next-finds part n a safe (inl r))

      touched : (a : ℕ) → Writes part.store n (cell a) ⊎ Makes p ev n (cell a) → part.heap a ≡ whole.heap a
      touched a (inl w) = part-cell a (next-finds part n a safe (inr w))
      touched a (inr m) = fresh a m ∙ sym (splits-lacks_whole a h.heaps (fresh a m) (o.made a m))

  -- a step of the part is one of the whole, and leaves the rest
  pub part-step : (t : Common) (u : Task) → Goes p ev part n t u
      → (w : Common) × Goes p ev whole n w u × KeepsRest p n whole w t cells variables
  part-step t u d =
      let safe : IsAtNoCell part n → ⊥ = goes-not_at_no_cell p ev part t n u d in
      let w = goes-local p ev part t whole n u d (part-agrees safe (absent-by_next p ev part t n u d)) in
      (w.0, w.1, part-keeps t w.0 u safe d w.1 w.2)

  -- the part agrees with the whole on what the event rests on
  whole-agrees : (w : Common) (u : Task) → (IsAtNoCell part n → ⊥) → Goes p ev whole n w u
      → AgreesOnReads p ev n whole part
  whole-agrees w u safe e = record { read = read; cells = touched; holders = λ r m. sym (o.holder r m) }
    where
      read : (thing : Thing) → Reads whole.store n thing → AgreeOn whole part thing
      read (variable slot) r =
          sym (part-vars slot (reads-back part.store whole.store n part-vars (variable slot) r))
      read (cell a) r = sym (part-cell a
          (next-finds part n a safe (inl (reads-back part.store whole.store n part-vars (cell a) r))))

      touched : (a : ℕ) → Writes whole.store n (cell a) ⊎ Makes p ev n (cell a) → whole.heap a ≡ part.heap a
      touched a (inl x) = sym (part-cell a
          (next-finds part n a safe (inr (writes-back part.store whole.store n part-vars (cell a) x))))
      touched a (inr m) =
          let lacks : whole.heap a ≡ None = absent-by_next p ev whole w n u e a m in
          lacks ∙ sym (splits-lacks_both a h.heaps lacks).0

  -- a step of the whole is one of the part, and leaves the rest
  pub whole-step : (w : Common) (u : Task) → (IsAtNoCell part n → ⊥) → Goes p ev whole n w u
      → (t : Common) × Goes p ev part n t u × KeepsRest p n whole w t cells variables
  whole-step w u safe e =
      let t = goes-local p ev whole w part n u e (whole-agrees w u safe e) in
      let v = part-step t.0 u t.1 in (
        t.0,
        t.1,
        subst (λ z. KeepsRest p n whole z t.0 cells variables)
            (goes-unique p ev whole v.0 w n u u v.1 e).0 v.2,
      )
