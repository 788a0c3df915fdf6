-- A step on what a part has is a step of every whole that has it, and leaves what the others have.
-- Names: `makes-LAW` speaks of what an event makes, `acts-LAW` of the step.
use Rattle.std.specs.Prelude.{◌≡◌, ◌≢◌, ◌⊎◌, ℕ, true, ◌==◌, Option, Some, None}
use Rattle.std.specs.Option.{option_or}
use Rattle.std.proofs.Common.{true≢false, sym, ap, ◌∙◌, refl, subst, inl, inr}
use Rattle.sf_base.proofs.Bools.{and-left}
use Rattle.std.proofs.lemmas.Option.{none-some}
use Rattle.sf_base.specs.declared.ids.ResId.{ResId}
use Rattle.sf_base.specs.declared.value.Value.{Value}
use Rattle.sf_base.specs.HeapStore.{Apart, Heap, Map, Slot, Splits, Store, shared, own}
use Rattle.sf_base.proofs.HeapSplits.{at-same}
use Rattle.sf_base.proofs.MapSplits.{splits-at_left, splits-has_left, splits-lacks_both, splits-lacks_right}
use Rattle.sf_core.specs.Checked.Machine.Laws.{Makes, Moves, IsOfPart, IsLeft, KeepsRest}
use Rattle.sf_core.specs.Machine.Config.{Room, in_room, Task, Path, Common, Config}
use Rattle.sf_core.specs.Machine.Enabled.{variable, cell, Writes}
use Rattle.sf_core.specs.Machine.Next.{Next, does, leaves, returns, joins, nothing, next}
use Rattle.sf_core.specs.Machine.Step.{Event, TaskStep, room_for, room_count}
use Rattle.sf_core.specs.Machine.Whole.{Part, holders, IsUnused}
use Rattle.sf_core.specs.Program.Syntax.{assign, look_up, mutate, new, dispose, if, while, call, fork, with, Program}
use Rattle.sf_core.proofs.Machine.Commute.{writes-back}
use Rattle.sf_core.proofs.Machine.Decided.{moves-or_not}
use Rattle.sf_core.proofs.Machine.Frames.{goes-not_at_no_cell, next-finds, part-step}
use Rattle.sf_core.proofs.Machine.Steps.{heap-by_next, held-by_next, store-by_next}
use Rattle.sf_part.specs.Steps.{common_of, Acts}

-- a slot of a room that an event makes has the event's number
room-number : (room : Room) (n : ℕ) → room.event ≡ n → (slot : Slot) → in_room room slot ≡ true
    → (i : ℕ) × (slot ≡ own n i)
room-number room n is (shared r i) e = absurd (true≢false (sym e))
room-number room n is (own m i) e =
    let same : m ≡ room.event = at-same room.event m (and-left (m == room.event) _ e) in
    (i, ap (λ z. own z i) (same ∙ is))

-- a slot that an event makes has its number
pub makes-number : (p : Program) (ev : Event) (what : Next) (slot : Slot)
    → Makes p ev what (variable slot)
    → (i : ℕ) × (slot ≡ own ev.number i)
makes-number p ev (does f below (assign place x e) rest) slot m = absurd m
makes-number p ev (does f below (look_up place x e g) rest) slot m = absurd m
makes-number p ev (does f below (mutate place e g v) rest) slot m = absurd m
makes-number p ev (does f below (new place x) rest) slot m = absurd (cc)
makes-number p ev (does f below (dispose place e) rest) slot m = absurd m
makes-number p ev (does f below (if place test this that) rest) slot m = absurd m
makes-number p ev (does f below (while place test kept body) rest) slot m = absurd m
makes-number p ev (does f below (call place c) rest) slot (g, e, i) =
    room-number (room_for g ev.number 0) ev.number refl slot i
makes-number p ev (does f below (fork place c d) rest) slot (g, h, e, k, m) = elim m [
  | inl i ↦ room-number (room_for g ev.number 0) ev.number refl slot i
  | inr i ↦ room-number (room_for h ev.number (room_count g)) ev.number refl slot i
]
makes-number p ev (does f below (with place r test body) rest) slot m = absurd m
makes-number p ev (leaves f below r rest) slot m = absurd m
makes-number p ev (returns f below) slot m = absurd m
makes-number p ev (joins frames one two) slot m = absurd m
makes-number p ev nothing slot m = absurd m

-- where the other has nothing, the one is the whole
at-alone : {X : Type 0} (x y z : Option X) → y ≡ x → z ≡ None → Apart x z × (y ≡ option_or x z)
at-alone None y z e n = (tt, e ∙ sym n)
at-alone (Some v) y z e n = (subst (λ r. Apart (Some v) r) (sym n) tt, e)

-- where the one is all, the other has nothing
at-all : {X : Type 0} (x y w : Option X) → Apart x y → w ≡ option_or x y → x ≡ w → y ≡ None
at-all None y w d e h = sym (h ∙ e)
at-all (Some x) None w d e h = refl
at-all (Some x) (Some y) w d e h = absurd d

-- Acted: the step on the whole, what the part and the others have after it, and that unused numbers
-- stay so
pub record Acted (p : Program) (ev : Event) (b : Part) (from to : Task) (c : Config) (cells : Heap)
    (variables : Store)
    (others : Map ResId Path) : Type 0 where
  pub after : Common
  pub steps : TaskStep p ev c.common from after to
  pub heap : Splits after.heap b.heap cells
  pub store : Splits after.store b.store variables
  pub held : Splits after.held (holders b) others
  pub kept : (r : ResId) → (Moves p (next from) r → ⊥) → after.held r ≡ c.common.held r
  pub moved : (r : ResId) → Moves p (next from) r → after.held r ≡ holders b r
  pub unused : (n : ℕ) → n ≢ ev.number → IsUnused c n
      → (after.heap n ≡ None) × ((i : ℕ) → after.store (own n i) ≡ None)

module _ (p : Program) (ev : Event) (a b : Part) (from to : Task) (acts : Acts p ev a b from to)
    (c : Config)
    (cells : Heap) (variables : Store) (others : Map ResId Path)
    (heap : Splits c.common.heap a.heap cells)
    (store : Splits c.common.store a.store variables)
    (held : Splits c.common.held (holders a) others)
    (number : IsUnused c ev.number)
    (at : (location : ℕ) → Makes p ev (next from) (cell location) → location ≡ ev.number)
    (hands : (r : ResId) → Moves p (next from) r → holders a r ≡ c.common.held r) where
  -- the others have no slot that the part has
  lacks : (slot : Slot) → ((v : Value) × (a.store slot ≡ Some v)) → variables slot ≡ None
  lacks slot (v, e) = splits-lacks_right slot v store e

  -- the rest has nothing that the event touches
  of_part : IsOfPart p ev (next from) c.common (common_of a) cells variables
  of_part = record {
    read = λ slot r. lacks slot (acts.slots slot (inl r));
    changed = changed;
    made = λ location m. subst (λ z. cells z ≡ None) (sym (at location m))
        (splits-lacks_both ev.number heap number.heap).1;
    holder = hands;
  }
    where
      changed : (slot : Slot) → Writes a.store (next from) (variable slot) ⊎ Makes p ev (next from)
          (variable slot)
          → variables slot ≡ None
      changed slot (inl w) = lacks slot (acts.slots slot (inr w))
      changed slot (inr m) =
          let (i, e) = makes-number p ev (next from) slot m in
          subst (λ z. variables z ≡ None) (sym e)
          (splits-lacks_both (own ev.number i) store (number.store i)).1

  -- the holders split as before
  held-after : (w : Common) → KeepsRest p (next from) c.common w (common_of b) cells variables
      → Splits w.held (holders b) others
  held-after w keeps = record { apart = λ r. (at_one r).0; is = λ r. (at_one r).1 }
    where
      at_one : (r : ResId) → Apart (holders b r) (others r)
          × (w.held r ≡ option_or (holders b r) (others r))
      at_one r = elim (moves-or_not p (next from) r) [
        | inl m ↦ at-alone (holders b r) (w.held r) (others r) (keeps.moved r m)
            (at-all (holders a r) (others r) (c.common.held r) (held.apart r) (held.is r)
            (hands r m))
        | inr n ↦ let same : holders b r ≡ holders a r =
            held-by_next p ev (common_of a) (common_of b) (next from) to acts.steps r n in
            let also : w.held r ≡ c.common.held r = keeps.kept r n in (
              subst (λ z. Apart z (others r)) (sym same) (held.apart r),
              also ∙ held.is r ∙ ap (λ z. option_or z (others r)) (sym same),
            )
      ]

  -- an unused number stays unused, unless it is the event's
  unused-after : (w : Common) → TaskStep p ev c.common from w to → (n : ℕ) → n ≢ ev.number
      → IsUnused c n
      → (w.heap n ≡ None) × ((i : ℕ) → w.store (own n i) ≡ None)
  unused-after w step n other u = (
    heap-by_next p ev c.common w (next from) to step n cell_left ∙ u.heap,
    λ i. store-by_next p ev c.common w (next from) to step (own n i) (slot_left i) ∙ u.store i,
  )
    where
      cell_left : IsLeft p ev c.common.store (next from) (cell n)
      cell_left = record {
        unwritten = λ x. let (k, e) = next-finds c.common (next from) n
            (goes-not_at_no_cell p ev c.common w (next from) to step) (inr x) in none-some k
            (sym u.heap ∙ e);
        not_made = λ m. other (at n m);
      }

      slot_left : (i : ℕ) → IsLeft p ev c.common.store (next from) (variable (own n i))
      slot_left i = record {
        unwritten = λ x.
            let back = writes-back a.store c.common.store (next from)
            (λ slot r. sym (splits-at_left slot store (lacks slot (acts.slots slot (inl r)))))
            (variable (own n i)) x in
            let (v, e) = acts.slots (own n i) (inr back) in
            none-some v (sym (u.store i) ∙ splits-has_left (own n i) v store e);
        not_made = λ m.
            let (j, e) = makes-number p ev (next from) (own n i) m in
            let same : n ≡ ev.number = cc in other same;
      }

  -- the step on the part is one of the whole
  pub acts-step : Acted p ev b from to c cells variables others
  acts-step =
      let (w, step, keeps) = part-step p ev c.common (common_of a) cells variables (next from)
      (record { heaps = heap; stores = store }) of_part (common_of b) to acts.steps in
      record {
        after = w;
        steps = step;
        heap = keeps.splits.heaps;
        store = keeps.splits.stores;
        held = held-after w keeps;
        kept = keeps.kept;
        moved = keeps.moved;
        unused = unused-after w step;
      }
