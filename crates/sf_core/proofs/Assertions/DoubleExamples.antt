-- The examples of doubly linked segments.
-- Names: each example has the name of its function, and `WHAT-LAW` is said of its parts.
use Rattle.std.specs.Prelude.{◌≡◌, ℕ, Some, ◌==◌, cond}
use Rattle.std.proofs.Common.{sym, ap, ◌∙◌, refl, subst, arith}
use Rattle.std.proofs.lemmas.Option.{same_Some}
use Rattle.sf_base.specs.declared.value.Value.{Value}
use Rattle.sf_base.specs.declared.value.Value.TheVariants.{Nil as nil, Loc as loc}
use Rattle.sf_base.proofs.HeapSplits.{at-other, one-in, one-single, one-splits, remove_cell, star-drop_right, star-empty_right, star-map_right, star-of}
use Rattle.sf_base.proofs.MapSplits.{splits-has_right}
use Rattle.sf_base.specs.HeapStore.{Cell, Heap, IsOne}
use Rattle.sf_core.proofs.Assertions.DoubleSegments.{dseg-empty, dseg-first, dseg-one}
use Rattle.sf_core.proofs.Assertions.Examples.{field-outside, loc-not_nil, second-alone}
use Rattle.sf_core.proofs.Assertions.Segments.{loc-same}
use Rattle.sf_core.specs.Assertions.Sat.{Dseg, linked}
use Rattle.sf_core.specs.Checked.Assertions.DoubleExamples.{EachCellIsOne, FirstCellLeadsBack, LastCellIsTheSecond, OneWayIsNotBothWays, SecondIsAfterTheFirst, between, pv, two_linked}
use Rattle.sf_core.specs.Checked.Assertions.Examples.{tail, tl}

-- what is known of a doubly linked segment to nil that begins at a cell of a heap which it is part of
record Opened (whole : Heap) (last before from : Value) (here : Cell) : Type 0 where
  pub back : here 3 ≡ before
  pub rest : Heap
  pub behind : Dseg tl pv last nil from (here 0) rest
  pub within : (location : ℕ) (cell : Cell) → rest location ≡ Some cell → whole location ≡ Some cell

opened : {whole heap : Heap} {last before from : Value} (location : ℕ) (here : Cell)
    → ((location : ℕ) (cell : Cell) → heap location ≡ Some cell → whole location ≡ Some cell)
    → from ≡ loc location → whole location ≡ Some here → Dseg tl pv last nil before from heap
    → Opened whole last before from here
opened {whole} {last = last} {from = from} a c w p h d =
    let f = dseg-first (λ e. loc-not_nil a (sym p ∙ e)) d in
    let there : f.location ≡ a = loc-same f.location a (sym f.is ∙ p) in
    let same : f.here ≡ c =
    same_Some f.here c (sym (w f.location f.here (one-in f.cell f.splits)) ∙ ap whole there ∙ h) in
    record {
      back = ap (λ (k : Cell). k 3) (sym same) ∙ f.back_to;
      rest = f.rest;
      behind = subst (λ (k : Cell). Dseg tl pv last nil from (k 0) f.rest) same f.behind;
      within = λ b k e. w b k (splits-has_right b k f.splits e);
    }

one-not_two : (n : ℕ) → n ≡ 1 → n ≡ 2 → ⊥
one-not_two n e f = omega arith

-- without the first cell there is the second alone
second-is_one : IsOne 2 (between nil (loc 1)) (remove_cell 1 two_linked)
second-is_one = record {
  here = refl;
  elsewhere = λ b n. second-alone (between (loc 2) nil) (between nil (loc 1)) (b == 1) (b == 2) (at-other 2 b n);
}

-- the second cell is a doubly linked segment after the first
second-dseg : {last : Value} → loc 2 ≡ last → Dseg tl pv last nil (loc 1) (loc 2) (remove_cell 1 two_linked)
second-dseg l = dseg-one 2 (between nil (loc 1)) (loc-not_nil 2) refl l second-is_one refl refl

-- and both are one after nil
both-dseg : {last before : Value} → loc 2 ≡ last → nil ≡ before → Dseg tl pv last nil before (loc 1) two_linked
both-dseg l b = linked (loc-not_nil 1) 1 (between (loc 2) nil) _ _ refl (one-single 1 (between (loc 2) nil))
    (one-splits 1 (between (loc 2) nil) two_linked refl) b (second-dseg l)

-- the second cell is the last one
pub last_cell_is_the_second : LastCellIsTheSecond
unfolding LastCellIsTheSecond
last_cell_is_the_second w = (
  λ d.
      let f = opened 1 (between (loc 2) nil) (λ a c e. e) refl refl (star-drop_right d.2) in
      let g = opened 2 (between nil (loc 1)) f.within refl refl f.behind in
      sym (dseg-empty refl g.behind).0,
  λ e. (λ n. nil, λ n o. refl, star-empty_right (both-dseg (sym e) refl)),
)

-- the first cell leads back to nil
pub first_cell_leads_back : FirstCellLeadsBack
unfolding FirstCellLeadsBack
first_cell_leads_back w = (
  λ d. sym (opened 1 (between (loc 2) nil) (λ a c e. e) refl refl (star-drop_right d.2)).back,
  λ e. (
    λ n. cond (n == 0) (loc 2) nil,
    field-outside (loc 2),
    star-empty_right (both-dseg refl (sym e)),
  ),
)

-- the second cell would have to lead back to the first
pub one_way_is_not_both_ways : OneWayIsNotBothWays
unfolding OneWayIsNotBothWays
one_way_is_not_both_ways w d =
    let f = opened 1 (tail (loc 2)) (λ a c e. e) refl refl (star-drop_right d.2) in
    loc-not_nil 1 (sym (opened 2 (tail nil) f.within refl refl f.behind).back)

-- each cell by itself
pub each_cell_is_one : EachCellIsOne
unfolding EachCellIsOne
each_cell_is_one = (
  λ n. nil,
  λ n o. refl,
  star-of (one-splits 1 (between (loc 2) nil) two_linked refl)
      (dseg-one 1 (between (loc 2) nil) (λ e. one-not_two 1 refl (loc-same 1 2 e)) refl refl
      (one-single 1 (between (loc 2) nil)) refl refl) (star-empty_right (second-dseg refl)),
)

-- the second cell leads back to the first, and not to nil
pub second_is_after_the_first : SecondIsAfterTheFirst
unfolding SecondIsAfterTheFirst
second_is_after_the_first d =
    let e = star-map_right (λ part f. star-drop_right f) d.2 in
    loc-not_nil 1
    (opened 2 (between nil (loc 1)) (λ a c i. splits-has_right a c e.splits i) refl refl e.second).back
