-- Rooms that came up for the children of a fork, and vanish again.
-- Names: `opened-LAW`.
use Rattle.std.specs.Prelude.{◌≡◌, ◌-◌, ℕ, Bool, true, false, cond, get_or, All, List, Option, Some, None, Contains, is_some}
use Rattle.std.specs.FinMap.{get}
use Rattle.std.proofs.Common.{sym, ap, ◌∙◌, refl, inl, inr}
use Rattle.std.proofs.lemmas.List.Elements.{All-contains_itself}
use Rattle.sf_base.proofs.MapSplits.{splits-at_right}
use Rattle.sf_base.proofs.Options.{some-or_none}
use Rattle.sf_base.specs.declared.value.Value.{Value}
use Rattle.sf_base.specs.declared.value.Value.TheVariants.{Nil as nil}
use Rattle.sf_base.specs.HeapStore.{Apart, Slot, Splits, Store}
use Rattle.sf_core.specs.Machine.Config.{in_room, Common}
use Rattle.sf_core.specs.Machine.Step.{index_of}
use Rattle.sf_frame.specs.Checked.Effects.{IsClearStore, IsSameCommon, edited, opened, opened_store}
use Rattle.sf_frame.specs.declared.effect.Edit.TheVariants.{Close}
use Rattle.sf_frame.specs.declared.effect.Opening.{Opening}
use Rattle.sf_frame.specs.Frames.{room_of}
use Rattle.sf_heap.specs.Cells.{AreAt, Cells, HasCell}
use Rattle.sf_part.specs.Checked.Children.{NoneInBoth}

-- once both have vanished, the last one first, all is as it was
pub opened-closed : (o q : Opening) (s t u w : Common) → IsClearStore o s.store
    → IsClearStore q (opened_store o s.store)
    → IsSameCommon t (opened q (opened o s)) → IsSameCommon u (edited (Close q.room false) t)
    → IsSameCommon w (edited (Close o.room false) u) → IsSameCommon w s
opened-closed o q s t u w clear clear2 opens last first = record {
  heap = λ l. first.heap l ∙ last.heap l ∙ opens.heap l;
  store = λ slot. first.store slot ∙ go slot (in_room (room_of o.room) slot) refl;
  held = λ r. first.held r ∙ last.held r ∙ opens.held r;
}
  where
    second : (slot : Slot) (b : Bool)
        → in_room (room_of q.room) slot ≡ b → opened_store o s.store slot ≡ s.store slot
        → cond (in_room (room_of q.room) slot) None (t.store slot) ≡ s.store slot
    second slot true e same =
        ap (λ z. cond z None (t.store slot)) e ∙ sym (clear2.1 slot e) ∙ same
    second slot false e same =
        ap (λ z. cond z None (t.store slot)) e ∙ opens.store slot
        ∙ ap (λ z. cond z (Some (get_or q.values.items (index_of slot - q.room.first) nil))
        (opened_store o s.store slot)) e ∙ same

    go : (slot : Slot) (b : Bool) → in_room (room_of o.room) slot ≡ b
        → cond (in_room (room_of o.room) slot) None (u.store slot) ≡ s.store slot
    go slot true e = ap (λ z. cond z None (u.store slot)) e ∙ sym (clear.1 slot e)
    go slot false e = ap (λ z. cond z None (u.store slot)) e ∙ last.store slot
        ∙ second slot (in_room (room_of q.room) slot) refl
        (ap (λ z. cond z (Some (get_or o.values.items (index_of slot - o.room.first) nil))
        (s.store slot)) e)

-- What is left once a share is out: other cells are there still, and other slots have their values
pub opened-cells : (whole part less : Cells) (one two : List ℕ)
    → Splits (get whole) (get part) (get less) → AreAt one part
    → ((l : ℕ) → Contains one l → Contains two l → ⊥) → All (HasCell whole) two
    → All (HasCell less) two
opened-cells whole part less one two s are apart all k d l =
    let at = get_or two k d in
    let here = All-contains_itself two k d l in
    let lacks : get part at ≡ None = elim (some-or_none (get part at)) [
      | inl x ↦ absurd (apart at ((are at).0 (ap is_some x.1)) here)
      | inr x ↦ x
    ] in
    sym (ap is_some (splits-at_right at s lacks)) ∙ all k d l

pub opened-slots : (whole one less two share : Store) → Splits whole one less → one ≡ share
    → NoneInBoth share two → ((slot : Slot) (v : Value) → two slot ≡ Some v → whole slot ≡ Some v)
    → (slot : Slot) (v : Value) → two slot ≡ Some v → less slot ≡ Some v
opened-slots whole one less two share s is apart sub slot v e =
    let lacks : one slot ≡ None =
    ap (λ (z : Store). z slot) is ∙ none (share slot) (two slot) (apart slot) e in
    sym (splits-at_right slot s lacks) ∙ sub slot v e
  where
    none : (x y : Option Value) → Apart x y → y ≡ Some v → x ≡ None
    none None y a h = refl
    none (Some w) None a h = absurd (let k : None ≡ Some v = h in cc)
    none (Some w) (Some u) a h = absurd a
