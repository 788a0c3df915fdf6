-- What rows would leave without one of their conditions: heaps on which it isn't what was wanted.
-- Names: `NAME_may_..` is the example of specs/Checked/Subtraction of that name; `hold-one` of one atom on a heap, `all-handed` of what goes.
use Rattle.std.proofs.Common.{◌≡◌, ◌≢◌, ℕ, zero, suc, [], ◌∷◌, Option, Some, None, refl, sym, ap, ◌∙◌, subst, arith}
use Rattle.std.proofs.lemmas.Option.{none-some}
use Rattle.sf_base.proofs.HeapSplits.{one-not_empty, one-put, one-same_place, one-single, put_cell, put-here, put-elsewhere, single, star-drop_right, star-empty_right}
use Rattle.sf_base.proofs.MapSplits.{empty_map, empty-holds, splits-empty_right, splits-of_empty_right}
use Rattle.sf_base.specs.declared.ids.Var.{Var}
use Rattle.sf_base.specs.declared.value.Value.{Value}
use Rattle.sf_base.specs.declared.value.Value.TheVariants.{Nil as nil, Loc as loc}
use Rattle.sf_base.specs.HeapStore.{Cell, Heap, IsEmpty, IsOne, Splits}
use Rattle.sf_proving_tests.specs.Checked.Subtraction.{one, EndMayBeInsideAJoinedList, FieldMayBeAnother, ListMayHaveACell, ListWithACellMayBeEmpty}
use Rattle.sf_consume.specs.Checked.Laws.{alone, HandsOver}
use Rattle.sf_consume.specs.Subtract.{Want}
use Rattle.sf_core.proofs.Assertions.Segments.{loc-same, nil-not_loc, seg-empty, seg-first, seg-one}
use Rattle.sf_core.specs.Checked.Assertions.Examples.{tl}
use Rattle.sf_core.specs.Assertions.Sat.{Seg, end}
use Rattle.sf_sym.specs.Cells.{handed}
use Rattle.sf_sym.specs.declared.atom.Atom.{Atom}
use Rattle.sf_sym.specs.declared.atom.Atom.TheVariants.{Points, Ls}
use Rattle.sf_sym.specs.declared.term.Term.TheVariants.{Sym}
use Rattle.sf_sym.specs.Holds.{AtomHolds, IsBound}
use Rattle.sf_sym.specs.HoldsIn.{HoldsIn}

-- every variable is nil, and so is every existential
store : Var → Option Value
store x = Some nil

some : ℕ → Value
some n = nil

-- no existential has a term
unbound : (w : ℕ → Value) → IsBound w [] some
unbound w n t e = absurd (none-some t e)

one-not_two : loc 1 ≢ loc 2
one-not_two e = let n : 1 ≡ 2 = loc-same 1 2 e in absurd (omega (arith, n))

two-not_one : loc 2 ≢ loc 1
two-not_one e = one-not_two (sym e)

-- all symbols are at 1
abbrev at_one : ℕ → Value
at_one n = loc 1

-- s1 is at 2, and the others are at 1
abbrev around : ℕ → Value
around zero = loc 1
around (suc zero) = loc 2
around (suc (suc n)) = loc 1

-- all fields of the cell lead to that location
abbrev to : ℕ → Cell
to location field = loc location

-- one atom on a heap
hold-one : (w : ℕ → Value) (x : Atom) (free : Heap) → AtomHolds w (one x).links x free
    → HoldsIn w (alone (one x)) store free empty_map
hold-one w x free h = record {
  vars = tt;
  apart = tt;
  disjoint = (splits-empty_right {map = free} empty-holds).apart;
  there = star-empty_right (star-empty_right h);
  gone = empty-holds;
}

-- where that atom was handed over, all that was there was
all-handed : (w : ℕ → Value) (x : Atom) (want after : Want) (free : Heap) → after.state ≡ handed (one x) 0 x
    → (h : HandsOver w want after store free empty_map) → free ≡ h.part
all-handed w x want after free e h =
    let there = subst (λ s. HoldsIn h.values (alone s) store h.rest h.gone) e h.holds in
    splits-of_empty_right (star-drop_right there.there) h.splits

-- s0 and s2 are at 1 and s1 is at 2: the cells at 1 and 2 lead to each other, and aren't an empty segment
pub end_may_be_inside : EndMayBeInsideAJoinedList
unfolding EndMayBeInsideAJoinedList
end_may_be_inside = record {
  refused = refl;
  wrong = λ left.
      let x = Ls (Sym 0) (Sym 1) in
      let first = single 1 (to 2) in
      let second = single 2 (to 1) in
      let h = left.hands around store first empty_map
      (hold-one around x first (seg-one 1 (to 2) one-not_two refl (one-single 1 (to 2)) refl)) in
      let all : first ≡ h.part = all-handed around x _ _ first refl h in
      let s1 : h.values 1 ≡ loc 2 = h.same 1 (omega arith) in
      let s2 : h.values 2 ≡ loc 1 = h.same 2 (omega arith) in
      let rest : Seg tl (h.values 2) (h.values 1) second =
      seg-one 2 (to 1) (λ e. two-not_one (sym s1 ∙ e ∙ s2)) s1 (one-single 2 (to 1)) (sym s2) in
      let free : second 1 ≡ None = put-elsewhere 2 1 (Some (to 1)) empty_map (λ e. absurd (omega (arith, e))) in
      let splits = subst (λ part. Splits (put_cell 1 (to 2) second) part second) all (one-put 1 (to 2) second free) in
      let whole = h.wants some second (put_cell 1 (to 2) second) splits
      (record { bound = unbound h.values; satisfied = star-empty_right rest }) in
      let nothing : IsEmpty (put_cell 1 (to 2) second) = seg-empty refl (star-drop_right whole.satisfied) in
      none-some (to 2) (sym (nothing.none 1) ∙ put-here 1 (Some (to 2)) second);
}

-- all are at 1, whose cell leads to itself: it isn't an empty segment
pub list_may_be_empty : ListWithACellMayBeEmpty
unfolding ListWithACellMayBeEmpty
list_may_be_empty = record {
  refused = refl;
  wrong = λ left.
      let x = Points (Sym 0) ((tl, Sym 2) ∷ []) in
      let heap = single 1 (to 1) in
      let h = left.hands at_one store heap empty_map
      (hold-one at_one x heap (1, to 1, refl, one-single 1 (to 1), (refl, tt))) in
      let all : heap ≡ h.part = all-handed at_one x _ _ heap refl h in
      let rest : Seg tl (h.values 1) (h.values 2) empty_map =
      end (h.same 2 (omega arith) ∙ sym (h.same 1 (omega arith))) empty-holds in
      let whole = h.wants some empty_map h.part (splits-empty_right empty-holds)
      (record { bound = unbound h.values; satisfied = star-empty_right rest }) in
      let nothing : IsEmpty h.part = seg-empty refl (star-drop_right whole.satisfied) in
      one-not_empty (one-single 1 (to 1)) (subst IsEmpty (sym all) nothing);
}

-- all are at 1, whose cell leads to itself: its field isn't nil
pub field_may_be_another : FieldMayBeAnother
unfolding FieldMayBeAnother
field_may_be_another = record {
  refused = refl;
  wrong = λ left.
      let x = Points (Sym 0) ((tl, Sym 1) ∷ []) in
      let heap = single 1 (to 1) in
      let h = left.hands at_one store heap empty_map
      (hold-one at_one x heap (1, to 1, refl, one-single 1 (to 1), (refl, tt))) in
      let all : heap ≡ h.part = all-handed at_one x _ _ heap refl h in
      let whole = h.wants some empty_map h.part (splits-empty_right empty-holds)
      (record { bound = unbound h.values; satisfied = empty-holds }) in
      let cell = star-drop_right whole.satisfied in
      let same : to 1 ≡ cell.1 = (one-same_place (subst (IsOne 1 (to 1)) all (one-single 1 (to 1))) cell.3).1 in
      nil-not_loc 1 (sym (ap (λ c. c 0) same ∙ cell.4.0));
}

-- s0 is at 1 and s1 at 2: nothing isn't a segment between them
pub list_may_have_a_cell : ListMayHaveACell
unfolding ListMayHaveACell
list_may_have_a_cell = record {
  refused = refl;
  wrong = λ left.
      let h = left.hands around store empty_map empty_map (record {
        vars = tt;
        apart = tt;
        disjoint = λ location. tt;
        there = star-empty_right empty-holds;
        gone = empty-holds;
      }) in
      let all : empty_map ≡ h.part = splits-of_empty_right (star-drop_right h.holds.there) h.splits in
      let whole = h.wants some empty_map h.part (splits-empty_right empty-holds)
      (record { bound = unbound h.values; satisfied = empty-holds }) in
      let first = seg-first one-not_two (star-drop_right whole.satisfied) in
      none-some first.1 (ap (λ part. part first.0) all ∙ first.3);
}
