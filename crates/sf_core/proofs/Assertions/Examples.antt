-- The examples of small heaps and assertions.
-- Names: each example has the name of its function, and `WHAT-LAW` is said of its parts.
use Rattle.std.specs.Prelude.{◌≡◌, ◌≢◌, ℕ, Bool, true, false, cond, Some, None, ◌==◌, [], ◌∷◌}
use Rattle.std.proofs.Common.{true≢false, sym, ap, ◌∙◌, refl, subst, inl, inr, arith}
use Rattle.std.proofs.lemmas.Option.{none-some, same_Some}
use Rattle.std.proofs.lemmas.Bool.{cases_eq}
use Rattle.sf_base.specs.declared.ids.FieldId.{FieldId}
use Rattle.sf_base.specs.declared.place.Place.{Place}
use Rattle.sf_base.specs.declared.value.Value.{Value}
use Rattle.sf_base.specs.declared.value.Value.TheVariants.{Nil as nil, Loc as loc}
use Rattle.sf_core.specs.declared.assertion.Operand.{Operand}
use Rattle.sf_core.specs.declared.assertion.Operand.TheVariants.{Known, Exists}
use Rattle.sf_core.specs.declared.assertion.Test.{Test}
use Rattle.sf_core.specs.declared.assertion.Test.TheVariants.{Equal}
use Rattle.sf_core.specs.declared.command.Expr.{Expr}
use Rattle.sf_core.proofs.Assertions.Determined.{determined-fixes, determined-precise}
use Rattle.sf_base.proofs.HeapSplits.{at-other, one-in, one-not_empty, one-same_place, one-single, one-splits, remove_cell, star-drop_right, star-empty_right, star-map_right, star-of}
use Rattle.sf_base.proofs.MapSplits.{empty_map, empty-holds, splits-empty_right, splits-has_right, splits-lacks_right, splits-of_empty_right}
use Rattle.sf_core.proofs.Assertions.Values.{value-which}
use Rattle.sf_core.proofs.Assertions.Segments.{loc-same, nil-not_loc, seg-first, seg-one}
use Rattle.sf_core.specs.Assertions.Determined.{CanBeTaken, Determined, HasOrder, IsReady, Leaves, all_taken, branches, known_after, plain, take}
use Rattle.sf_base.specs.HeapStore.{Cell, Heap, IsOne, Splits, ◌⋆◌}
use Rattle.sf_core.specs.Checked.Assertions.Examples.{ChoiceGoesByItsTest, CircleIsNoSegment, ExistentialIsFixed, ExistentialIsTheFieldsValue, NoLessIsACellAndAList, OneNodeIsATree, OrderIsFound, SegmentMayEndAtAnAbsentCell, TreeOfAnUnknownIsUndetermined, TwoCellsAreACellAndAList, cell_and_list, cell_of_unknown, l, nothing, one_cell, one_scope, place, r, tail, tl, two_cells, unknown, where_are, x, y, ExistentialDecidesAChoice, ExistentialOfABranchIsMadeThere, no_scope, BranchMakesItsExistentialKnown, ChoiceWaitsForAnExistential, late_choice}
use Rattle.sf_core.specs.Assertions.Occurs.{OccursInAll, OccursInOne}
use Rattle.sf_core.specs.Assertions.Scopes.{is_made_by}
use Rattle.sf_core.specs.Assertions.Sat.{SameOutside, SatAll, Seg, end, cell, leaf, node, value, SatOne}
use Rattle.sf_core.specs.Program.Syntax.{Conjunct, Conjuncts, Level, none, also, choose, points, segment, tree, level}

pub loc-not_nil : (location : ℕ) → loc location ≢ nil
loc-not_nil a e = nil-not_loc a (sym e)

pub second-alone : (u v : Cell) (a b : Bool) → b ≡ false
    → cond a None (cond a (Some u) (cond b (Some v) None)) ≡ None
second-alone u v true b e = refl
second-alone u v false b e = ap (λ t. cond t (Some v) None) e

-- without the first cell there is the second alone
second-is_one : IsOne 2 (tail nil) (remove_cell 1 two_cells)
second-is_one = record {
  here = refl;
  elsewhere = λ b n. second-alone (tail (loc 2)) (tail nil) (b == 1) (b == 2) (at-other 2 b n);
}

-- the first cell, and the second as a list
pub two_cells_are_a_cell_and_a_list : TwoCellsAreACellAndAList
unfolding TwoCellsAreACellAndAList
two_cells_are_a_cell_and_a_list = (
  λ n. nil,
  λ n o. refl,
  star-of (one-splits 1 (tail (loc 2)) two_cells refl)
      (1, tail (loc 2), refl, one-single 1 (tail (loc 2)), (refl, tt))
      (star-empty_right (seg-one 2 (tail nil) (loc-not_nil 2) refl second-is_one refl)),
)

cell_and_list-determined : Determined cell_and_list
cell_and_list-determined = take (points place x ((tl, y) ∷ [])) (also (segment place tl y nothing) none)
    (inl (refl, refl)) (plain tt)
    (take (segment place tl y nothing) none (inl (refl, refl)) (plain (tt, tt)) (all_taken refl))

-- it is determined, so no other part satisfies it
pub no_less_is_a_cell_and_a_list : NoLessIsACellAndAList
unfolding NoLessIsACellAndAList TwoCellsAreACellAndAList
no_less_is_a_cell_and_a_list part rest s d =
    determined-precise cell_and_list (value (where_are (loc 1) (loc 2))) (λ n. nil) cell_and_list-determined
    two_cells part two_cells rest empty_map s (splits-empty_right empty-holds) d
    two_cells_are_a_cell_and_a_list

-- each branch by its test
pub choice_goes_by_its_test : ChoiceGoesByItsTest
unfolding ChoiceGoesByItsTest
choice_goes_by_its_test v w heap = (
  λ e. (
    λ d. ((star-drop_right d.2).0 e).2,
    λ m. (λ n. nil, λ n o. refl, star-empty_right (λ i. (λ n. nil, λ n o. refl, m), λ n. absurd (n e))),
  ),
  λ n. (
    λ d. let f = star-drop_right ((star-drop_right d.2).1 n).2 in (f.0, f.1, f.2, f.3),
    λ f. (
      λ n. nil,
      λ n o. refl,
      star-empty_right
          (λ i. absurd (n i), λ i. (λ n. nil, λ n o. refl, star-empty_right (f.0, f.1, f.2, f.3, tt))),
    ),
  ),
)

pub field-outside : (w : Value) → SameOutside one_scope (λ n. nil) (λ n. cond (n == 0) w nil)
field-outside w n o = ap (λ t. cond t w nil)
    (at-other 0 n (λ (e : n ≡ 0). true≢false (ap (is_made_by one_scope) (sym e) ∙ o)))

-- the existential has the field's value
pub existential_is_the_fields_value : ExistentialIsTheFieldsValue
unfolding ExistentialIsTheFieldsValue
existential_is_the_fields_value location here w = (
  λ d.
      let e = star-map_right (λ part f. star-drop_right f) d.2 in
      let whole = splits-of_empty_right e.second.0 e.splits in
      let same = one-same_place (one-single location here)
      (subst (IsOne e.first.0 e.first.1) (sym whole) e.first.3) in
      ap (λ c. c 0) same.1 ∙ e.first.4.0 ∙ e.second.1,
  λ e. (
    λ n. cond (n == 0) w nil,
    field-outside w,
    star-of (splits-empty_right empty-holds) (location, here, refl, one-single location here, (e, tt))
        (star-empty_right (empty-holds, refl)),
  ),
)

-- beside the only cell of a heap there is none
beside_none : (location other : ℕ) (here more : Cell) (left right : Heap)
    → Splits (one_cell location here) left right → left location ≡ Some here → IsOne other more right → ⊥
beside_none location other here more left right s e o =
    let there : one_cell location here other ≡ Some more = splits-has_right other more s o.here in
    let same : other ≡ location =
    elim (cases_eq other location) [
      | inl i ↦ i
      | inr n ↦ absurd
          (none-some more (sym ((one-single location here).elsewhere other n) ∙ there))
    ] in
    none-some more (sym (splits-lacks_right location here s e) ∙ ap right (sym same) ∙ o.here)

-- the field's value decides; the other branch would want a second cell
pub existential_decides_a_choice : ExistentialDecidesAChoice
unfolding ExistentialDecidesAChoice
existential_decides_a_choice location here w = (
  λ d. forth (star-map_right (λ part f. star-drop_right f) d.2),
  λ e. (
    λ n. nil,
    λ n o. refl,
    star-of (splits-empty_right empty-holds) (location, here, refl, one-single location here, (e, tt))
        (star-empty_right ((λ i. (λ n. nil, λ n o. refl, empty-holds)), (λ n. absurd (n refl)))),
  ),
)
  where
    forth : {some : ℕ → Value}
        → (SatOne (points place x ((tl, unknown) ∷ [])) (value (where_are (loc location) w)) some
        ⋆ SatOne (choose place (Equal unknown nothing) (level no_scope none)
        (level no_scope (also (points place y []) none))) (value (where_are (loc location) w)) some)
        (one_cell location here) → here 0 ≡ nil
    forth {some} d =
        let at : location ≡ d.first.0 = loc-same location d.first.0 d.first.2 in
        let same : here ≡ d.first.1 =
        same_Some here d.first.1
        (sym (one-single location here).here ∙ ap (one_cell location here) at
        ∙ one-in d.first.3 d.splits) in
        let is : here 0 ≡ some 0 = ap (λ (k : Cell). k 0) same ∙ d.first.4.0 in
        elim (value-which (some 0) nil) [
          | inl e ↦ is ∙ e
          | inr n ↦ let f = star-drop_right (d.second.1 n).2 in
              absurd (beside_none location f.0 here f.1 d.left d.right d.splits
              (ap d.left at ∙ d.first.3.here ∙ ap Some (sym same)) f.3)
        ]

-- the existential has the second cell's location
pub existential_of_a_branch_is_made_there : ExistentialOfABranchIsMadeThere
unfolding ExistentialOfABranchIsMadeThere
existential_of_a_branch_is_made_there w = (
  (
    λ n. nil,
    λ n o. refl,
    star-empty_right (
      (λ i. absurd (loc-not_nil 1 i)),
      (λ n. (
        λ n. cond (n == 0) (loc 2) nil,
        field-outside (loc 2),
        star-of (one-splits 1 (tail (loc 2)) two_cells refl)
            (1, tail (loc 2), refl, one-single 1 (tail (loc 2)), (refl, tt))
            (star-empty_right (2, tail nil, refl, second-is_one, tt)),
      )),
    ),
  ),
  λ heap. (
    λ d. ((star-drop_right d.2).0 refl).2,
    λ m. (
      λ n. nil,
      λ n o. refl,
      star-empty_right
          ((λ i. (λ n. nil, λ n o. refl, m)), (λ n. absurd (n refl))),
    ),
  ),
)

-- a node with two empty trees
pub one_node_is_a_tree : OneNodeIsATree
unfolding OneNodeIsATree
one_node_is_a_tree location w = (
  λ n. nil,
  λ n o. refl,
  star-empty_right (node location (λ field. nil) (one_cell location (λ field. nil)) empty_map empty_map
      empty_map refl (one-single location (λ field. nil)) (splits-empty_right empty-holds)
      (splits-empty_right empty-holds) (leaf refl empty-holds) (leaf refl empty-holds)),
)

one-not_nine : (n : ℕ) → n ≡ 1 → n ≡ 9 → ⊥
one-not_nine n e f = omega arith

-- one cell, and the end after it
pub segment_may_end_at_an_absent_cell : SegmentMayEndAtAnAbsentCell
unfolding SegmentMayEndAtAnAbsentCell
segment_may_end_at_an_absent_cell = (
  λ n. nil,
  λ n o. refl,
  star-empty_right
      (seg-one 1 (tail (loc 9)) (λ e. one-not_nine 1 refl (loc-same 1 9 e)) refl (one-single 1 (tail (loc 9)))
      refl),
)

circle-no_seg : {to from : Value} {heap : Heap} → Seg tl to from heap → from ≡ loc 1
    → IsOne 1 (tail (loc 1)) heap → ⊥
circle-no_seg (end e m) i o = one-not_empty o m
circle-no_seg {to} {heap = heap} (cell n a c g rest p o u d) i w =
    let here : a ≡ 1 = loc-same a 1 (sym p ∙ i) in
    let same : c ≡ tail (loc 1) = same_Some c (tail (loc 1)) (sym (one-in o u) ∙ ap heap here ∙ w.here) in
    let back : c 0 ≡ loc 1 = ap (λ k. k 0) same in
    let again = seg-first (λ e. n (i ∙ sym back ∙ e)) d in
    let there : again.0 ≡ a = loc-same again.0 a (sym again.2 ∙ back ∙ ap loc (sym here)) in
    none-some again.1 (sym (splits-lacks_right a c u o.here) ∙ ap rest (sym there) ∙ again.3)

-- the cell would have to be in the rest again
pub circle_is_no_segment : CircleIsNoSegment
unfolding CircleIsNoSegment
circle_is_no_segment w d = circle-no_seg (star-drop_right d.2) refl (one-single 1 (tail (loc 1)))

-- the second conjunct, then the first
pub order_is_found : OrderIsFound
unfolding OrderIsFound
order_is_found = take (points place x ((tl, unknown) ∷ [])) (also (segment place tl unknown nothing) none)
    (inr (none, inl (refl, refl), refl)) (plain tt)
    (take (segment place tl unknown nothing) none (inl (refl, refl)) (plain (refl, tt)) (all_taken refl))

also-not_none : {E : Type 0} (c : Conjunct E) (cs : Conjuncts E) → also c cs ≡ none → ⊥
also-not_none c cs e = cc

tree-not_choose : {E : Type 0} (p q : Place) (f g : FieldId) (z : Operand E) (t : Test (Operand E))
    (a b : Level E) → tree p f g z ≡ choose q t a b → ⊥
tree-not_choose p q f g z t a b e = cc

unknown-not_taken : (known : ℕ → Bool) (c : Conjunct Expr) → known 0 ≡ false → tree place l r unknown ≡ c
    → CanBeTaken known c → ⊥
unknown-not_taken known c k e (plain i) = true≢false (sym (subst (IsReady known) (sym e) i) ∙ k)
unknown-not_taken known c k e (branches p t made other this that i o a b) =
    tree-not_choose place p l r unknown t _ _ (e ∙ i)

unknown-no_order : (known : ℕ → Bool) (cs : Conjuncts Expr) → known 0 ≡ false
    → also (tree place l r unknown) none ≡ cs → HasOrder known cs → ⊥
unknown-no_order known cs k e (all_taken i) = also-not_none (tree place l r unknown) none (e ∙ i)
unknown-no_order known cs k e (take c rest leaves f o) = go (subst (λ z. Leaves z c rest) (sym e) leaves)
  where
    go : Leaves (also (tree place l r unknown) none) c rest → ⊥
    go (inl i) = unknown-not_taken known c k i.0 f
    go (inr i) = i.1

-- its only conjunct is never ready
pub tree_of_an_unknown_is_undetermined : TreeOfAnUnknownIsUndetermined
unfolding TreeOfAnUnknownIsUndetermined
tree_of_an_unknown_is_undetermined d = unknown-no_order (λ n. false) _ refl refl d

cell_of_unknown-determined : HasOrder (λ n. false) cell_of_unknown
cell_of_unknown-determined = take (points place x ((tl, unknown) ∷ [])) none (inl (refl, refl)) (plain tt)
    (all_taken refl)

cell_of_unknown-holds : (location : ℕ) (here : Cell) (w : Value) (some : ℕ → Value) → some 0 ≡ here 0
    → SatAll cell_of_unknown (value (where_are (loc location) w)) some (one_cell location here)
cell_of_unknown-holds location here w some e =
    star-empty_right (location, here, refl, one-single location here, (sym e, tt))

pub existential_is_fixed : ExistentialIsFixed
unfolding ExistentialIsFixed
existential_is_fixed = (
  cell_of_unknown-determined,
  inl (inr (inl refl)),
  λ location here w some. (
    λ d.
        determined-fixes cell_of_unknown (value (where_are (loc location) w)) some (λ n. here 0)
        (one_cell location here) (one_cell location here) (one_cell location here) empty_map empty_map
        cell_of_unknown-determined
        (splits-empty_right empty-holds) (splits-empty_right empty-holds) d
        (cell_of_unknown-holds location here w (λ n. here 0) refl) 0 (inl (inr (inl refl))),
    cell_of_unknown-holds location here w some,
  ),
)

exists-not_known : (n : ℕ) (a : Expr) → Exists n ≡ Known a → ⊥
exists-not_known n a e = cc

exists-unknown : (n : ℕ) → Exists n ≡ unknown → n ≡ 0
exists-unknown n e = cc

-- only the existential of number 0 occurs in the choice from outside
late-occurs : (known : ℕ → Bool) → known 0 ≡ true → (n : ℕ) → OccursInOne late_choice (Exists n)
    → known n ≡ true
late-occurs known k n (inl (inl e)) = absurd (exists-not_known n _ e)
late-occurs known k n (inl (inr e)) = absurd (exists-not_known n _ e)
late-occurs known k n (inr (inl i)) = absurd i.0
late-occurs known k n (inr (inr (inl (inl e), f))) = ap known (exists-unknown n e) ∙ k
late-occurs known k n (inr (inr (inl (inr e), f))) = absurd (exists-not_known n _ e)
late-occurs known k n (inr (inr (inr i, f))) = absurd i

-- where it is not known, the choice can't be taken
late-waits : (known : ℕ → Bool) (c : Conjunct Expr) → known 0 ≡ false → c ≡ late_choice → CanBeTaken known c
    → ⊥
late-waits known c k e (plain i) = subst (IsReady known) e i
late-waits known c k e (branches p t made other this that i o a b) =
    true≢false (sym (o 0 (subst (λ z. OccursInOne z unknown) (sym e) (inr (inr (inl (inl refl), refl))))) ∙ k)

-- the cell, and then the choice
pub choice_waits_for_an_existential : ChoiceWaitsForAnExistential
unfolding ChoiceWaitsForAnExistential
choice_waits_for_an_existential = (
  take (points place x ((tl, unknown) ∷ [])) (also late_choice none) (inr (none, inl (refl, refl), refl))
      (plain tt) (take late_choice none (inl (refl, refl)) then_choice (all_taken refl)),
  λ f. late-waits (λ n. false) late_choice refl refl f,
)
  where
    then_choice : CanBeTaken (known_after (points place x ((tl, unknown) ∷ [])) (λ n. false)) late_choice
    then_choice =
        branches place (Equal y nothing) no_scope no_scope none (also (segment place tl unknown nothing) none)
        refl (late-occurs (known_after (points place x ((tl, unknown) ∷ [])) (λ n. false)) refl)
        (all_taken refl)
        (take (segment place tl unknown nothing) none (inl (refl, refl)) (plain (refl, tt)) (all_taken refl))

-- the choice of the unrolled list
abbrev unrolled_choice : Conjunct Expr
unrolled_choice = choose place (Equal x nothing) (level no_scope none)
    (level one_scope (also (segment place tl unknown nothing) cell_of_unknown))

-- no existential occurs in it from outside
unrolled-occurs : (n : ℕ) → OccursInOne unrolled_choice (Exists n) → ⊥
unrolled-occurs n (inl (inl e)) = exists-not_known n _ e
unrolled-occurs n (inl (inr e)) = exists-not_known n _ e
unrolled-occurs n (inr (inl i)) = absurd i.0
unrolled-occurs n (inr (inr (i, f))) = go i
  where
    made : Exists n ≡ unknown → ⊥
    made e = true≢false (sym (ap (is_made_by one_scope) (exists-unknown n e)) ∙ f)

    go : OccursInAll (also (segment place tl unknown nothing) cell_of_unknown) (Exists n) → ⊥
    go (inl (inl e)) = made e
    go (inl (inr e)) = exists-not_known n _ e
    go (inr (inl (inl e))) = exists-not_known n _ e
    go (inr (inl (inr (inl e)))) = made e
    go (inr (inl (inr (inr j)))) = absurd j
    go (inr (inr j)) = absurd j

-- inside the branch the cell, and then the segment
pub branch_makes_its_existential_known : BranchMakesItsExistentialKnown
unfolding BranchMakesItsExistentialKnown
branch_makes_its_existential_known =
    take unrolled_choice none (inl (refl, refl))
    (branches place (Equal x nothing) no_scope one_scope none
    (also (segment place tl unknown nothing) cell_of_unknown) refl (λ n i. absurd (unrolled-occurs n i))
    (all_taken refl)
    (take (points place x ((tl, unknown) ∷ [])) (also (segment place tl unknown nothing) none)
    (inr (none, inl (refl, refl), refl)) (plain tt)
    (take (segment place tl unknown nothing) none (inl (refl, refl)) (plain (refl, tt)) (all_taken refl))))
    (all_taken refl)
