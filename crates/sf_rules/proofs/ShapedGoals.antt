-- What rows keep of a goal's shape, and how far they raise its numbers; and goals where terms are the same, or differ.
-- Names: `keeps-LAW` of a goal that is kept, `COUNT-keep` of that many goals that are left, `WHAT-shaped`.
use Rattle.std.specs.List.{AllByRecursion}
use Rattle.std.proofs.Common.{◌≡◌, ℕ, ◌+◌, ◌-◌, ◌≤◌, Bool, true, false, cond, Option, Some, None, List, [], ◌∷◌, refl, sym, subst, arith}
use Rattle.std.proofs.lemmas.Option.{same_Some}
use Rattle.sf_rules.specs.declared.few.TheConstants.{TOO_MANY}
use Rattle.sf_rules.specs.Setting.{Setting}
use Rattle.sf_rules.proofs.Fitting.{todo-fits_with}
use Rattle.sf_rules.proofs.FittingStates.{StateShaped, apart-shaped, replaced-fits}
use Rattle.sf_rules.specs.Shape.{StateFits}
use Rattle.sf_rules.proofs.Fits.{IsFitting, ItemsFit}
use Rattle.sf_sym.specs.Below.{AllInItem, IsBelow}
use Rattle.sf_sym.specs.declared.term.Term.{Term}
use Rattle.sf_sym.specs.Equalities.{assumed_apart, assumed_equal, put_for, which_goes, with_one}
use Rattle.sf_sym.specs.Goal.{Item, Goal, at_state}
use Rattle.sf_sym.specs.Checked.Lemmas.Below.{below-more, items-weaker}
use Rattle.sf_sym.specs.Checked.Lemmas.Keeping.{follows-equal}
use Rattle.sf_sym.specs.State.{State}
use Rattle.sf_sym.specs.Tests.{same_term}

-- THE SHAPE OF A GOAL, by its state and what there is to do
pub state-shaped : (d : Setting) (goal : Goal) → IsFitting d goal → StateShaped d goal.state
state-shaped d goal h = record { below = h.below.state; fits = h.state }

pub goal-shaped : (d : Setting) (s : State) (todo : List Item) → StateShaped d s
    → AllByRecursion (AllInItem (IsBelow s.next_sym)) todo → ItemsFit d todo
    → IsFitting d (record { state = s; todo = todo })
goal-shaped d s todo h b f = record { below = record { state = h.below; todo = b }; state = h.fits; todo = f }

-- WHAT ROWS KEEP
-- the numbers of one state are no lower than the other's, and not much higher
pub record Rises (s s2 : State) : Type 0 where
  pub kept : s.next_sym ≤ s2.next_sym
  pub symbols : s2.next_sym ≤ s.next_sym + (TOO_MANY - 1)
  pub atoms : s2.next_atom ≤ s.next_atom + (TOO_MANY - 1)

pub rises-none : (s s2 : State) → s2.next_sym ≡ s.next_sym → s2.next_atom ≡ s.next_atom → Rises s s2
rises-none s s2 e f = record { kept = omega arith; symbols = omega arith; atoms = omega arith }

-- a goal that a row leaves is shaped too, and its numbers aren't much higher
pub record Keeps (d : Setting) (s : State) (child : Goal) : Type 0 where
  pub shaped : IsFitting d child
  pub symbols : child.state.next_sym ≤ s.next_sym + (TOO_MANY - 1)
  pub atoms : child.state.next_atom ≤ s.next_atom + (TOO_MANY - 1)

abbrev pub AllKeep : Setting → State → List Goal → Type 0
AllKeep d s left = AllByRecursion (Keeps d s) left

pub one-keeps : (d : Setting) (s : State) (child : Goal) (left : List Goal) → Some (child ∷ []) ≡ Some left
    → Keeps d s child → AllKeep d s left
one-keeps d s child left e k = subst (AllKeep d s) (same_Some (child ∷ []) left e) (k, tt)

pub two-keep : (d : Setting) (s : State) (one two : Goal) (left : List Goal) → Some (one ∷ two ∷ []) ≡ Some left
    → Keeps d s one → Keeps d s two → AllKeep d s left
two-keep d s one two left e k l = subst (AllKeep d s) (same_Some (one ∷ two ∷ []) left e) (k, (l, tt))

pub none-keep : (d : Setting) (s : State) (left : List Goal) → Some [] ≡ Some left → AllKeep d s left
none-keep d s left e = subst (AllKeep d s) (same_Some [] left e) tt

-- what is to do later is still below
pub rest-below : (s s2 : State) (rest : List Item) → Rises s s2
    → AllByRecursion (AllInItem (IsBelow s.next_sym)) rest → AllByRecursion (AllInItem (IsBelow s2.next_sym)) rest
rest-below s s2 rest r b =
    items-weaker (IsBelow s.next_sym) (IsBelow s2.next_sym) (below-more s.next_sym s2.next_sym r.kept) rest b

pub keeps-goal : (d : Setting) (s s2 : State) (todo : List Item) → StateShaped d s2 → Rises s s2
    → AllByRecursion (AllInItem (IsBelow s2.next_sym)) todo → ItemsFit d todo
    → Keeps d s (record { state = s2; todo = todo })
keeps-goal d s s2 todo h r b f =
    record { shaped = goal-shaped d s2 todo h b f; symbols = r.symbols; atoms = r.atoms }

-- the same to do in another state
pub keeps-state : (d : Setting) (goal : Goal) (s2 : State) → IsFitting d goal → StateShaped d s2
    → Rises goal.state s2 → Keeps d goal.state (at_state goal s2)
keeps-state d goal s2 h k r =
    keeps-goal d goal.state s2 goal.todo k r (rest-below goal.state s2 goal.todo r h.below.todo) h.todo

-- TERMS THAT ARE THE SAME, OR DIFFER
module _ (d : Setting) (t u : Term) (goal : Goal) where
  pub equal-numbers : ((assumed_equal t u goal).state.next_sym ≡ goal.state.next_sym)
      × ((assumed_equal t u goal).state.next_atom ≡ goal.state.next_atom)
  equal-numbers = go (same_term t u)
    where
      one : (o : Option (ℕ × Term)) → ((with_one o goal).state.next_sym ≡ goal.state.next_sym)
          × ((with_one o goal).state.next_atom ≡ goal.state.next_atom)
      one None = (refl, refl)
      one (Some r) = (refl, refl)

      go : (b : Bool) → ((cond b goal (with_one (which_goes t u) goal)).state.next_sym ≡ goal.state.next_sym)
          × ((cond b goal (with_one (which_goes t u) goal)).state.next_atom ≡ goal.state.next_atom)
      go true = (refl, refl)
      go false = one (which_goes t u)

  module _ (h : IsFitting d goal) where
    equal-fits : StateFits d (assumed_equal t u goal).state
    equal-fits = go (same_term t u)
      where
        one : (o : Option (ℕ × Term)) → StateFits d (with_one o goal).state
        one None = record {
          links = h.state.links;
          atoms = h.state.atoms;
          rising = h.state.rising;
          given = h.state.given;
        }
        one (Some r) = replaced-fits d goal.state (state-shaped d goal h) (put_for r.0 r.1)

        go : (b : Bool) → StateFits d (cond b goal (with_one (which_goes t u) goal)).state
        go true = h.state
        go false = one (which_goes t u)

    equal-todo : ItemsFit d (assumed_equal t u goal).todo
    equal-todo = go (same_term t u)
      where
        one : (o : Option (ℕ × Term)) → ItemsFit d (with_one o goal).todo
        one None = h.todo
        one (Some r) = todo-fits_with d (put_for r.0 r.1) goal.todo h.todo

        go : (b : Bool) → ItemsFit d (cond b goal (with_one (which_goes t u) goal)).todo
        go true = h.todo
        go false = one (which_goes t u)

    pub equal-shaped : IsBelow goal.state.next_sym t → IsBelow goal.state.next_sym u
        → IsFitting d (assumed_equal t u goal)
    equal-shaped b c = record {
      below = (follows-equal t u goal h.below b c).below;
      state = equal-fits;
      todo = equal-todo;
    }

    pub apart_goal-shaped : IsBelow goal.state.next_sym t → IsBelow goal.state.next_sym u
        → IsFitting d (assumed_apart t u goal)
    apart_goal-shaped b c =
        let m = apart-shaped d goal.state (state-shaped d goal h) ((t, u) ∷ []) ((b, c), tt) in
        record {
          below = record { state = m.below; todo = h.below.todo };
          state = m.fits;
          todo = h.todo;
        }

    -- they are kept, if the goal's own numbers are
    pub equal-keeps : (s : State) → IsBelow goal.state.next_sym t → IsBelow goal.state.next_sym u
        → Rises s goal.state → Keeps d s (assumed_equal t u goal)
    equal-keeps s b c r =
        let n = equal-numbers in
        record {
          shaped = equal-shaped b c;
          symbols = subst (λ m. m ≤ s.next_sym + (TOO_MANY - 1)) (sym n.0) r.symbols;
          atoms = subst (λ m. m ≤ s.next_atom + (TOO_MANY - 1)) (sym n.1) r.atoms;
        }

    pub apart-keeps : (s : State) → IsBelow goal.state.next_sym t → IsBelow goal.state.next_sym u
        → Rises s goal.state → Keeps d s (assumed_apart t u goal)
    apart-keeps s b c r = record { shaped = apart_goal-shaped b c; symbols = r.symbols; atoms = r.atoms }
