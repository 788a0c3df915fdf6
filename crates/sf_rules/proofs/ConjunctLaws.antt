-- The laws of conjuncts: one is assumed, one is shown, and a choice among them goes where its test is decided.
-- Names: `branch-LAW` of the branch that is chosen, `shown-LAW` of what is left
-- to show; the laws have the names of the functions whose contracts they are.
use Rattle.std.specs.List.{AllByRecursion}
use Rattle.std.specs.Option.{option_and_then}
use Rattle.std.proofs.Common.{◌≡◌, ℕ, Bool, true, false, cond, Option, Some, None, List, [], ◌∷◌, ◌++◌, length, refl, sym, subst, inl, inr, arith}
use Rattle.std.proofs.lemmas.Option.{option_and_then_some, same_Some}
use Rattle.sf_base.proofs.Elements.{all_by-append}
use Rattle.sf_base.proofs.HeapSplits.{star-drop_right, star-empty_right, star-map_left, star-map_right, star-of}
use Rattle.sf_base.specs.declared.ids.Var.{Var}
use Rattle.sf_base.specs.declared.place.Place.{Place}
use Rattle.sf_base.specs.declared.value.Value.{Value}
use Rattle.sf_base.specs.HeapStore.{Heap}
use Rattle.sf_consume.specs.Checked.Laws.{BranchKeepsWants, Subtracts, SubtractionKeepsWants}
use Rattle.sf_consume.specs.Subtract.{Want, new_symbols, removed, subtracted}
use Rattle.sf_consume.specs.Wants.{IsFormed, still_wanted, wanting}
use Rattle.sf_core.specs.Assertions.Sat.{Sat, SatOne}
use Rattle.sf_core.specs.declared.assertion.Operand.{Operand}
use Rattle.sf_core.specs.declared.assertion.Operand.TheVariants.{Known}
use Rattle.sf_core.specs.declared.assertion.Test.{Test}
use Rattle.sf_core.specs.Program.Syntax.{holds, points, segment, doubly, tree, choose, Level, Conjuncts, none, also}
use Rattle.sf_produce.specs.Add.{add_row, operands}
use Rattle.sf_produce.specs.Checked.Laws.{AddKeepsGoals, HoldsAssumed, assuming}
use Rattle.sf_rules.specs.Checked.Lemmas.{few-left}
use Rattle.sf_rules.specs.Checked.Lemmas.Forms.{showing-empty, taking-showing}
use Rattle.sf_rules.specs.Checked.LawsOfConjuncts.{AssumeKeepsGoals, AssumedBranchKeepsGoals, HandsOn, LeftToShow, ShownBranchLeavesRest, SubtractionLeavesRest, showing, still_showing}
use Rattle.sf_rules.specs.Checked.Rows.Branches.{chosen}
use Rattle.sf_sym.specs.Below.{AllInPending, AreBelow, IsBelow}
use Rattle.sf_sym.specs.Decided.{is_decided, test_of_terms}
use Rattle.sf_sym.specs.declared.term.Term.{Term}
use Rattle.sf_sym.specs.Formed.{AreFormed, ItemFormed}
use Rattle.sf_sym.specs.Goal.{Item, add, Goal, adding, one_goal, taking}
use Rattle.sf_sym.specs.Holds.{term_value, IsBound, PendingHolds}
use Rattle.sf_sym.specs.HoldsIn.{HoldsIn}
use Rattle.sf_sym.specs.Checked.Laws.{Follows, KeptWith}
use Rattle.sf_sym.specs.Checked.Lemmas.Adding.{adding-all, adding-holds, taking-all}
use Rattle.sf_sym.specs.Checked.Lemmas.Below.{below-more, items-weaker}
use Rattle.sf_sym.specs.Checked.Lemmas.Bindings.{test-is}
use Rattle.sf_sym.specs.Checked.Lemmas.Choices.{before-formed, before-occurs, branch-assumed, branch-formed, branch-occurs, scoped-branch}
use Rattle.sf_sym.specs.Checked.Lemmas.Decided.{decided-false, decided-true}
use Rattle.sf_sym.specs.Checked.Lemmas.Formed.{formed-adding, formed-taking}
use Rattle.sf_sym.specs.Checked.Lemmas.Keeping.{kept-one}
use Rattle.sf_sym.specs.Checked.Lemmas.Restated.{restated-same}
use Rattle.sf_sym.specs.Pending.{Pending, before, conjuncts_of}
use Rattle.sf_sym.specs.Shape.{HasShape, IsShowing}
use Rattle.sf_sym.specs.State.{State}

-- add, where few symbols are new
pub assume_keeps_goals : AddKeepsGoals → AssumeKeepsGoals
unfolding AddKeepsGoals AssumeKeepsGoals
assume_keeps_goals law s p given rest left shape row =
    law s p given rest left shape
    (few-left (operands given.conjuncts) (add_row s p given rest) left row)

-- A choice among what is assumed
module _ (so : Bool) (s : State) (p : Place) (place : Place) (test : Test (Operand Term)) (this that : Level Term)
    (others : Conjuncts Term) (bindings : List (Option Term)) (rest : List Item) (terms : Test Term)
    (tested : test_of_terms bindings test ≡ Some terms) (decided : is_decided so s terms ≡ true) where
  -- with the choice first, and with the branch in its place
  abbrev with_choice : Pending
  with_choice = record { conjuncts = also (choose place test this that) others; bindings = bindings }

  abbrev with_chosen : Pending
  with_chosen = record { conjuncts = before (conjuncts_of (cond so this that)) others; bindings = bindings }

  abbrev after_choice : Goal
  after_choice = record { state = s; todo = adding p with_chosen ++ rest }

  -- where the test is decided so, that branch holds
  branch-holds : (w some : ℕ → Value) (goal : Goal) (e : Var → Option Value) (free taken part : Heap)
      → goal.state ≡ s → HoldsIn w goal e free taken → IsBound w bindings some
      → SatOne (choose place test this that) (term_value w) some part
      → Sat (cond so this that) (term_value w) some part
  branch-holds w some goal e free taken part at h bound d = go so decided
    where
      go : (so : Bool) → is_decided so s terms ≡ true → Sat (cond so this that) (term_value w) some part
      go true i = d.0 ((test-is w some bindings test terms bound tested).1
          (decided-true w goal e free taken h terms (subst (λ z. is_decided true z terms ≡ true) (sym at) i)))
      go false i = d.1 (λ k. decided-false w goal e free taken h terms
          (subst (λ z. is_decided false z terms ≡ true) (sym at) i)
          ((test-is w some bindings test terms bound tested).0 k))

  branch-all : (P : Term → Type 0) → AllInPending P with_choice → AllInPending P with_chosen
  branch-all P a = record {
    conjuncts = λ t o. elim (before-occurs (conjuncts_of (cond so this that)) others (Known t) o) [
      | inl here ↦ a.conjuncts t (inl (branch-occurs so place test this that t here))
      | inr there ↦ a.conjuncts t (inr there)
    ];
    bindings = a.bindings;
  }

  branch-follows : AreBelow (assuming s p with_choice rest) → Follows (assuming s p with_choice rest) after_choice
  branch-follows below = record {
    below = record {
      state = below.state;
      todo = adding-all (IsBelow s.next_sym) p with_chosen rest
          (branch-all (IsBelow s.next_sym) below.todo.0) below.todo.1;
    };
    symbols = omega arith;
    links = refl;
    formed = λ f. all_by-append (ItemFormed s.links) (adding p with_chosen) rest
        (formed-adding s.links p with_chosen
        (before-formed s.links (length bindings) (conjuncts_of (cond so this that)) others
        (branch-formed so s.links (length bindings) place test this that f.0.0.0) f.0.0.1)
        (scoped-branch so place test this that others bindings f.0.1)) f.1;
  }

  branch-kept : (left : List Goal) → AreBelow (assuming s p with_choice rest)
      → AreFormed (assuming s p with_choice rest) → Some (after_choice ∷ []) ≡ Some left
      → KeptWith (assuming s p with_choice rest) left (HoldsAssumed p rest)
  branch-kept left below formed e =
      kept-one (HoldsAssumed p rest) (assuming s p with_choice rest) after_choice left e (branch-follows below)
      (λ w f free taken h.
      let (some, bound, sat) = h.there.second.first in
      let pending : PendingHolds w with_chosen h.there.second.left =
      branch-assumed so place test this that others bindings formed.0.1 w some h.there.second.left bound
      (star-map_left (λ part d. branch-holds w some (assuming s p with_choice rest) f free taken part refl h bound d)
      sat) in
      record {
        still = record {
          values = w;
          same = λ m d. refl;
          holds = record {
            vars = h.vars;
            apart = h.apart;
            disjoint = h.disjoint;
            there = star-of h.there.splits h.there.first
                (adding-holds w p with_chosen rest h.there.right
                (star-of h.there.second.splits pending h.there.second.second));
            gone = h.gone;
          };
        };
        left = with_chosen;
        others = rest;
        todo = refl;
        restated = restated-same w rest;
      })

pub assumed_branch_keeps_goals : AssumedBranchKeepsGoals
unfolding AssumedBranchKeepsGoals
assumed_branch_keeps_goals so s p given rest left shape row = go given.conjuncts shape.below shape.formed row
  where
    go : (cs : Conjuncts Term)
        → AreBelow (assuming s p (record { conjuncts = cs; bindings = given.bindings }) rest)
        → AreFormed (assuming s p (record { conjuncts = cs; bindings = given.bindings }) rest)
        → option_and_then (λ after. one_goal s (adding p after ++ rest)) (chosen so s given cs) ≡ Some left
        → KeptWith (assuming s p (record { conjuncts = cs; bindings = given.bindings }) rest) left
        (HoldsAssumed p rest)
    go none below formed e = absurd (cc)
    go (also (holds q t) cs) below formed e = absurd (cc)
    go (also (points q x fs) cs) below formed e = absurd (cc)
    go (also (segment q next x y) cs) below formed e = absurd (cc)
    go (also (doubly q next back x b l y) cs) below formed e = absurd (cc)
    go (also (tree q l r x) cs) below formed e = absurd (cc)
    go (also (choose q t this that) cs) below formed e = by_test (test_of_terms given.bindings t) refl e
      where
        by_test : (o : Option (Test Term)) → test_of_terms given.bindings t ≡ o
            → option_and_then (λ after. one_goal s (adding p after ++ rest))
            (option_and_then (λ terms. cond (is_decided so s terms) (Some (record {
              conjuncts = before (conjuncts_of (cond so this that)) cs;
              bindings = given.bindings;
            })) None) o) ≡ Some left
            → KeptWith (assuming s p (record {
              conjuncts = also (choose q t this that) cs;
              bindings = given.bindings;
            }) rest) left (HoldsAssumed p rest)
        by_test None i e = absurd (cc)
        by_test (Some terms) i e = decide (is_decided so s terms) refl e
          where
            decide : (b : Bool) → is_decided so s terms ≡ b
                → option_and_then (λ after. one_goal s (adding p after ++ rest)) (cond b (Some (record {
                  conjuncts = before (conjuncts_of (cond so this that)) cs;
                  bindings = given.bindings;
                })) None) ≡ Some left
                → KeptWith (assuming s p (record {
                  conjuncts = also (choose q t this that) cs;
                  bindings = given.bindings;
                }) rest) left (HoldsAssumed p rest)
            decide true d e =
                branch-kept so s p q t this that cs given.bindings rest terms i d left below formed e
            decide false d e = absurd (cc)

-- What is to be shown
module _ (s : State) (p : Place) (want : Pending) (names : List (List ℕ)) (rest : List Item)
    (shape : HasShape (showing s p want names rest)) where
  -- a subtraction that is formed
  shown-formed : IsFormed (wanting s want)
  shown-formed = record {
    state = shape.below.state;
    terms = shape.below.todo.0;
    conjuncts = shape.formed.0;
  }

  -- the goal that is left holds on what was handed over and on the rest
  shown-hands : (after : Want) → Subtracts (wanting s want) after → (w : ℕ → Value) (e : Var → Option Value)
      (free taken : Heap) → HoldsIn w (showing s p want names rest) e free taken
      → HandsOn w (wanting s want) after (still_showing after p names rest) e free taken
  shown-hands after d w e free taken h =
      let m = d.hands w e free taken (record {
        vars = h.vars;
        apart = h.apart;
        disjoint = h.disjoint;
        there = star-empty_right (star-drop_right h.there);
        gone = h.gone;
      }) in
      let form : IsShowing rest = elim shape.form [ inl f ↦ absurd f.0 | inr f ↦ f ] in
      record {
        hands = m;
        holds = record {
          vars = m.holds.vars;
          apart = m.holds.apart;
          disjoint = m.holds.disjoint;
          there = star-map_right (λ part i. showing-empty m.values (still_showing after p names rest).todo part
              (taking-showing p (still_wanted after) names rest form) i)
              (star-empty_right (star-drop_right m.holds.there));
          gone = m.holds.gone;
        };
      }

  -- the goal that is left where it comes to be another
  shown-left : (after : Want) (left : List Goal) → Subtracts (wanting s want) after
      → Some (still_showing after p names rest ∷ []) ≡ Some left → LeftToShow s p want names rest left
  shown-left after left d e = record {
    after = after;
    is = sym (same_Some (still_showing after p names rest ∷ []) left e);
    subtracts = d;
    follow = record {
      below = record {
        state = d.formed.state;
        todo = taking-all (IsBelow after.state.next_sym) p (still_wanted after) names rest d.formed.terms
            (items-weaker (IsBelow s.next_sym) (IsBelow after.state.next_sym)
            (below-more s.next_sym after.state.next_sym d.symbols) rest shape.below.todo.1);
      };
      symbols = d.symbols;
      links = d.links;
      formed = λ f. all_by-append (ItemFormed after.state.links) (taking p (still_wanted after) names) rest
          (formed-taking after.state.links p (still_wanted after) names d.formed.conjuncts)
          (subst (λ l. AllByRecursion (ItemFormed l) rest) (sym d.links) f.1);
    };
    hands = shown-hands after d;
  }

-- a step of subtraction
pub subtraction_leaves_rest : SubtractionKeepsWants → SubtractionLeavesRest
unfolding SubtractionKeepsWants SubtractionLeavesRest
subtraction_leaves_rest law tag s p want names rest left shape row =
    option_and_then_some
    (λ (after : Want). one_goal after.state (taking p (still_wanted after) names ++ rest))
    (subtracted tag (wanting s want)) left
    (few-left (new_symbols want.conjuncts)
    (option_and_then (λ (after : Want). one_goal after.state (taking p (still_wanted after) names ++ rest))
    (subtracted tag (wanting s want))) left row)
    (λ after is e. shown-left s p want names rest shape after left
    (law tag (wanting s want) after (shown-formed s p want names rest shape) is) e)

-- a choice among what is to be shown
pub shown_branch_leaves_rest : BranchKeepsWants → ShownBranchLeavesRest
unfolding BranchKeepsWants ShownBranchLeavesRest
shown_branch_leaves_rest law so s p want names rest left shape row = go want.conjuncts shape row
  where
    go : (cs : Conjuncts Term)
        → HasShape (showing s p (record { conjuncts = cs; bindings = want.bindings }) names rest)
        → option_and_then (λ after. one_goal s (taking p after names ++ rest)) (chosen so s want cs) ≡ Some left
        → LeftToShow s p (record { conjuncts = cs; bindings = want.bindings }) names rest left
    go none shape e = absurd (cc)
    go (also (holds q t) cs) shape e = absurd (cc)
    go (also (points q x fs) cs) shape e = absurd (cc)
    go (also (segment q next x y) cs) shape e = absurd (cc)
    go (also (doubly q next back x b l y) cs) shape e = absurd (cc)
    go (also (tree q l r x) cs) shape e = absurd (cc)
    go (also (choose q t this that) cs) shape e = by_test (test_of_terms want.bindings t) refl e
      where
        by_test : (o : Option (Test Term)) → test_of_terms want.bindings t ≡ o
            → option_and_then (λ after. one_goal s (taking p after names ++ rest))
            (option_and_then (λ terms. cond (is_decided so s terms) (Some (record {
              conjuncts = before (conjuncts_of (cond so this that)) cs;
              bindings = want.bindings;
            })) None) o) ≡ Some left
            → LeftToShow s p (record {
              conjuncts = also (choose q t this that) cs;
              bindings = want.bindings;
            }) names rest left
        by_test None i e = absurd (cc)
        by_test (Some terms) i e = decide (is_decided so s terms) refl e
          where
            decide : (b : Bool) → is_decided so s terms ≡ b
                → option_and_then (λ after. one_goal s (taking p after names ++ rest)) (cond b (Some (record {
                  conjuncts = before (conjuncts_of (cond so this that)) cs;
                  bindings = want.bindings;
                })) None) ≡ Some left
                → LeftToShow s p (record {
                  conjuncts = also (choose q t this that) cs;
                  bindings = want.bindings;
                }) names rest left
            decide true d e =
                shown-left s p (record { conjuncts = also (choose q t this that) cs; bindings = want.bindings }) names rest shape
                (removed s want.bindings (before (conjuncts_of (cond so this that)) cs)) left
                (law so s want.bindings q t this that cs terms (shown-formed s p (record {
                  conjuncts = also (choose q t this that) cs;
                  bindings = want.bindings;
                }) names rest shape) i d) e
            decide false d e = absurd (cc)
