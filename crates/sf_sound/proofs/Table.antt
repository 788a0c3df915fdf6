-- What a goal claims follows by each row of the table from what the goals that are left claim.
-- Names: `row-claims`.
use Rattle.std.specs.List.{AllByRecursion}
use Rattle.std.proofs.Common.{◌≡◌, ℕ, Bool, true, false, Some, List, [], ◌∷◌, sym, subst}
use Rattle.sf_base.specs.declared.place.Place.{Place}
use Rattle.sf_core.specs.declared.assertion.Test.{Test}
use Rattle.sf_core.specs.declared.command.Expr.{Expr}
use Rattle.sf_core.specs.Program.Syntax.{Block, if}
use Rattle.sf_normal.specs.Knowledge.{absurd_row, back_row, drop_row, force_row, split_row, unroll_row}
use Rattle.sf_normal.specs.Checked.Laws.{AbsurdKeepsGoals, BackKeepsGoals, DropKeepsGoals, ForceKeepsGoals, SplitKeepsGoals, UnrollKeepsGoals}
use Rattle.sf_produce.specs.Add.{operands}
use Rattle.sf_rules.specs.Checked.Lemmas.{few-left}
use Rattle.sf_rules.specs.Checked.LawsOfRows.{RowLaws}
use Rattle.sf_rules.specs.Checked.LawsOfConjuncts.{AssumeKeepsGoals, AssumedBranchKeepsGoals, SubtractionLeavesRest, ShownBranchLeavesRest}
use Rattle.sf_rules.specs.Checked.RowCases.{Rows, RowsHaveCases, by_absurd, by_add, by_again, by_around, by_assign, by_back, by_call, by_choice, by_choice_assumed, by_choice_shown, by_dispose, by_drop, by_end, by_enter, by_exit, by_force, by_fork, by_give, by_look, by_loop, by_mutate, by_new, by_return, by_split, by_step, by_unroll}
use Rattle.sf_rules.specs.Checked.Rows.Add.{assume_row}
use Rattle.sf_rules.specs.Checked.Rows.Branches.{branch_row}
use Rattle.sf_rules.specs.Checked.Rows.Take.{subtract_row}
use Rattle.sf_rules.specs.Checked.Rows.Whole.{row}
use Rattle.sf_rules.specs.Setting.{Setting}
use Rattle.sf_sound.proofs.Around.{around-claims}
use Rattle.sf_sound.proofs.Calls.{call-claims}
use Rattle.sf_sound.proofs.Commands.{assign-claims, dispose-claims, else-claims, look-claims, mutate-claims, new-claims, then-claims}
use Rattle.sf_sound.proofs.Ends.{again-claims, end-claims, return-claims}
use Rattle.sf_sound.proofs.Forks.{fork-claims}
use Rattle.sf_sound.proofs.Giving.{give-claims}
use Rattle.sf_sound.proofs.Loops.{loop-claims}
use Rattle.sf_sound.proofs.RegionEnds.{exit-claims}
use Rattle.sf_sound.proofs.Regions.{enter-claims}
use Rattle.sf_sound.proofs.Restating.{assumed-claims, restated-claims, shown-claims}
use Rattle.sf_rules.specs.Checked.Lemmas.StateChildren.{absurd-stays, add-stays, back-stays, choice-stays, drop-stays, force-stays, split-stays, unroll-stays}
use Rattle.sf_rules.specs.Checked.Lemmas.Subtracting.{chosen-lists, subtract-lists}
use Rattle.sf_sound.specs.Checked.Suits.{Claim}
use Rattle.sf_sym.specs.declared.tag.Tag.{Tag}
use Rattle.sf_sym.specs.declared.term.Term.{Term}
use Rattle.sf_sym.specs.Goal.{Item, run, add, take, Goal}
use Rattle.sf_sym.specs.Pending.{Pending}
use Rattle.sf_sym.specs.Shape.{HasShape}
use Rattle.sf_sym.specs.State.{State}

module _ (laws : RowLaws) (d : Setting) (goal : Goal) (left : List Goal) (shape : HasShape goal)
    (claims : AllByRecursion (Claim d) left) where
  abbrev s : State
  s = goal.state

  -- the goal with what is in front, and the one goal that is left
  in-front : (todo : List Item) → goal.todo ≡ todo → Claim d (record { state = s; todo = todo }) → Claim d goal
  in-front todo e c = subst (λ z. Claim d (record { state = s; todo = z })) (sym e) c

  front : (todo : List Item) → goal.todo ≡ todo → HasShape (record { state = s; todo = todo })
  front todo e = subst (λ z. HasShape (record { state = s; todo = z })) e shape

  one-left : (child : Goal) → left ≡ child ∷ [] → Claim d child
  one-left child e = (subst (AllByRecursion (Claim d)) e claims).0

  absurd-claims : absurd_row goal ≡ Some left → Claim d goal
  unfolding AbsurdKeepsGoals
  absurd-claims e = restated-claims d goal left shape (λ b. laws.absurd_law goal left b e)
      (λ o. absurd-stays goal left e) claims

  drop-claims : (a : ℕ) → drop_row goal a ≡ Some left → Claim d goal
  unfolding DropKeepsGoals
  drop-claims a e = restated-claims d goal left shape (λ b. laws.drop_law a goal left b e)
      (λ o. drop-stays goal left a o e) claims

  force-claims : (a : ℕ) → force_row goal a ≡ Some left → Claim d goal
  unfolding ForceKeepsGoals
  force-claims a e =
      restated-claims d goal left shape (λ b. laws.force_law a goal left b e) (λ o. force-stays goal left a o e) claims

  split-claims : (x y : Term) → split_row goal x y ≡ Some left → Claim d goal
  unfolding SplitKeepsGoals
  split-claims x y e =
      restated-claims d goal left shape (λ b. laws.split_law x y goal left b e) (λ o. split-stays goal left x y o e) claims

  unroll-claims : (a : ℕ) → unroll_row goal a ≡ Some left → Claim d goal
  unfolding UnrollKeepsGoals
  unroll-claims a e =
      restated-claims d goal left shape (λ b. laws.unroll_law a goal left b e) (λ o. unroll-stays goal left a o e) claims

  back-claims : (a : ℕ) → back_row goal a ≡ Some left → Claim d goal
  unfolding BackKeepsGoals
  back-claims a e =
      restated-claims d goal left shape (λ b. laws.back_law a goal left b e) (λ o. back-stays goal left a o e) claims

  add-claims : (q : Place) (given : Pending) (rest : List Item)
      → HasShape (record { state = s; todo = add q given ∷ rest }) → assume_row s q given rest ≡ Some left
      → Claim d (record { state = s; todo = add q given ∷ rest })
  unfolding AssumeKeepsGoals
  add-claims q given rest front e =
      assumed-claims d s q given rest left front (λ b. laws.assume_law s q given rest left b e)
      (λ o. add-stays s q given rest left o (few-left (operands given.conjuncts) _ left e)) claims

  step-claims : (tag : Tag) (q : Place) (want : Pending) (names : List (List ℕ)) (rest : List Item)
      → HasShape (record { state = s; todo = take q want names ∷ rest }) → subtract_row tag s q want names rest ≡ Some left
      → Claim d (record { state = s; todo = take q want names ∷ rest })
  unfolding SubtractionLeavesRest
  step-claims tag q want names rest front e =
      shown-claims d s q want names rest left front (λ b. laws.subtraction_law tag s q want names rest left b e)
      (subtract-lists tag s q want names rest left e) claims

  choice-added : (so : Bool) (q : Place) (given : Pending) (rest : List Item)
      → HasShape (record { state = s; todo = add q given ∷ rest }) → branch_row so s (add q given ∷ rest) ≡ Some left → Claim d (record { state = s; todo = add q given ∷ rest })
  unfolding AssumedBranchKeepsGoals
  choice-added so q given rest front e =
      assumed-claims d s q given rest left front (λ b. laws.assumed_branch_law so s q given rest left b e)
      (λ o. choice-stays so s q given rest left o e) claims

  choice-shown : (so : Bool) (q : Place) (want : Pending) (names : List (List ℕ)) (rest : List Item)
      → HasShape (record { state = s; todo = take q want names ∷ rest }) → branch_row so s (take q want names ∷ rest) ≡ Some left
      → Claim d (record { state = s; todo = take q want names ∷ rest })
  unfolding ShownBranchLeavesRest
  choice-shown so q want names rest front e =
      shown-claims d s q want names rest left front (λ b. laws.shown_branch_law so s q want names rest left b e)
      (chosen-lists so s q want names rest left e) claims

  choice-claims : (so : Bool) (q : Place) (test : Test Expr) (this that : Block) (rest : List Item)
      → HasShape (record { state = s; todo = run (if q test this that) ∷ rest }) → branch_row so s (run (if q test this that) ∷ rest) ≡ Some left
      → Claim d (record { state = s; todo = run (if q test this that) ∷ rest })
  choice-claims true q test this that rest front e =
      then-claims d s rest left claims laws.then_law q test this that e front
  choice-claims false q test this that rest front e =
      else-claims d s rest left claims laws.else_law q test this that e front

  cases-claim : Rows d goal left → Claim d goal
  cases-claim (by_absurd e) = absurd-claims e
  cases-claim (by_drop a e) = drop-claims a e
  cases-claim (by_force a e) = force-claims a e
  cases-claim (by_split x y e) = split-claims x y e
  cases-claim (by_unroll a e) = unroll-claims a e
  cases-claim (by_back a e) = back-claims a e
  cases-claim (by_assign q x e rest is row) =
      in-front _ is (assign-claims d s rest left claims laws.assign_law q x e row (front _ is))
  cases-claim (by_look a q x e f rest is row) =
      in-front _ is (look-claims d s rest left claims laws.look_law q x e f a row (front _ is))
  cases-claim (by_mutate a q e f v rest is row) =
      in-front _ is (mutate-claims d s rest left claims laws.mutate_law q e f v a row (front _ is))
  cases-claim (by_new q x rest is row) = in-front _ is (new-claims d s rest left claims laws.new_law q x row (front _ is))
  cases-claim (by_dispose a q e rest is row) =
      in-front _ is (dispose-claims d s rest left claims laws.dispose_law q e a row (front _ is))
  cases-claim (by_choice so q test this that rest is row) =
      in-front _ is (choice-claims so q test this that rest (front _ is) row)
  cases-claim (by_loop q test invariant body rest is e) =
      in-front _ is (loop-claims d s q test invariant body rest (front _ is) (one-left _ e))
  cases-claim (by_call q c callee rest is there e) =
      in-front _ is (call-claims d s q c rest (front _ is) callee there (one-left _ e))
  cases-claim (by_fork q c o one two rest is there also_there e) =
      in-front _ is (fork-claims d s q c o rest (front _ is) one two there also_there (one-left _ e))
  cases-claim (by_enter q r test body of rest is there e) =
      in-front _ is (enter-claims d s q r test body rest of there (one-left _ e) (front _ is))
  cases-claim (by_add q given rest is row) = in-front _ is (add-claims q given rest (front _ is) row)
  cases-claim (by_choice_assumed so q given rest is row) = in-front _ is (choice-added so q given rest (front _ is) row)
  cases-claim (by_step tag q want names rest is row) = in-front _ is (step-claims tag q want names rest (front _ is) row)
  cases-claim (by_choice_shown so q want names rest is row) = in-front _ is (choice-shown so q want names rest (front _ is) row)
  cases-claim (by_give q set removed rest is e) =
      in-front _ is (give-claims d s q set removed rest (front _ is) (one-left _ e))
  cases-claim (by_around q test invariant body rest is e) =
      let both = subst (AllByRecursion (Claim d)) e claims in
      in-front _ is (around-claims d s q test invariant body rest (front _ is) both.0 both.1.0)
  cases-claim (by_again q invariant rest is e) = in-front _ is (again-claims d s q invariant rest (one-left _ e))
  cases-claim (by_exit q r of rest is there e) = in-front _ is (exit-claims d s q r rest of there (one-left _ e) (front _ is))
  cases-claim (by_return q owed rest is e) = in-front _ is (return-claims d s q owed rest (one-left _ e))
  cases-claim (by_end q rest is none e) = in-front _ is (end-claims d s q rest none)

  -- every row
  pub row-claims : (tag : Tag) → row d goal tag ≡ Some left → Claim d goal
  unfolding RowsHaveCases
  row-claims tag e = cases-claim (laws.cases d goal tag left e)
