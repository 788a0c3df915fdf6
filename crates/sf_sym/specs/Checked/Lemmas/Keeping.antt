-- What the laws of rows share: one goal that is left, how goals follow one another, and how they hold still.
-- Names: `kept-COUNT` of that many goals that are left, `follows-LAW`, `still-LAW` of a goal that holds still,
-- `before-LAW` of one that also has the same to do.
use Rattle.std.proofs.Common.{◌≡◌, ℕ, ◌≤◌, List, [], ◌∷◌, Option, Some, refl, sym, ◌∙◌, subst, inl, arith}
use Rattle.std.proofs.lemmas.Option.{same_Some}
use Rattle.sf_base.specs.declared.ids.Var.{Var}
use Rattle.sf_base.specs.declared.value.Value.{Value}
use Rattle.sf_base.specs.HeapStore.{Heap}
use Rattle.sf_sym.specs.Checked.Lemmas.Formed.{formed-equal}
use Rattle.sf_sym.specs.Checked.Lemmas.Restated.{restated-equal, restated-same}
use Rattle.sf_sym.specs.Checked.Lemmas.TwoHeaps.{assumed_terms_are_below, equal-stays, equal_terms_may_be_assumed}
use Rattle.sf_sym.specs.Below.{AreBelow, IsBelow, SameBelow}
use Rattle.sf_sym.specs.declared.term.Term.{Term}
use Rattle.sf_sym.specs.Equalities.{assumed_equal}
use Rattle.sf_sym.specs.Goal.{Goal, at_state}
use Rattle.sf_sym.specs.Holds.{term_value}
use Rattle.sf_sym.specs.HoldsIn.{HoldsIn}
use Rattle.sf_sym.specs.Checked.Laws.{AssumedTermsAreBelow, EqualTermsMayBeAssumed, Follows, HoldsAsBefore, HoldsStill, KeptWith}
use Rattle.sf_sym.specs.State.{State}

-- the goal is left with that child alone
pub kept-one : (So : (w : ℕ → Value) → Goal → (e : Var → Option Value) (free taken : Heap) → Goal → Type 0)
    (goal child : Goal) (left : List Goal) → Some (child ∷ []) ≡ Some left → Follows goal child
    → ((w : ℕ → Value) (e : Var → Option Value) (free taken : Heap) → HoldsIn w goal e free taken
    → So w goal e free taken child) → KeptWith goal left So
kept-one So goal child left e follows holds =
    subst (λ gs. KeptWith goal gs So) (same_Some (child ∷ []) left e) (record {
      follow = (follows, tt);
      hold = λ w e free taken h. inl (holds w e free taken h);
    })

-- Following
-- one goal after another
pub follows-trans : (one two three : Goal) → Follows one two → Follows two three → Follows one three
follows-trans one two three f g = record {
  below = g.below;
  symbols = omega (arith, f.symbols, g.symbols);
  links = g.links ∙ f.links;
  formed = λ x. g.formed (f.formed x);
}

-- the goal where two terms are assumed to be the same follows
pub follows-equal : (t u : Term) (goal : Goal) → AreBelow goal → IsBelow goal.state.next_sym t
    → IsBelow goal.state.next_sym u → Follows goal (assumed_equal t u goal)
unfolding AssumedTermsAreBelow
follows-equal t u goal below one two =
    let stays = equal-stays t u goal in
    record {
      below = (assumed_terms_are_below t u goal below one two).0;
      symbols = subst (λ n. goal.state.next_sym ≤ n) (sym stays.0) (omega arith);
      links = stays.1;
      formed = formed-equal t u goal;
    }

-- Holding still
-- with the values that there are
pub still-same : (w : ℕ → Value) (goal child : Goal) (e : Var → Option Value) (free taken : Heap)
    → HoldsIn w child e free taken → HoldsStill w goal e free taken child
still-same w goal child e free taken h = record { values = w; same = λ m d. refl; holds = h }

-- values that are the same below a number are so below a smaller one
pub same-below : (n m : ℕ) (v w x : ℕ → Value) → n ≤ m → SameBelow n v w → SameBelow m x v → SameBelow n x w
same-below n m v w x more f g k d = g k (omega (arith, d, more)) ∙ f k d

-- with the values that there are, and another state
pub before-same : (w : ℕ → Value) (goal : Goal) (s : State) (e : Var → Option Value) (free taken : Heap)
    → HoldsIn w (at_state goal s) e free taken → HoldsAsBefore w goal e free taken (at_state goal s)
unfolding still-same
before-same w goal s e free taken h = record {
  still = still-same w goal (at_state goal s) e free taken h;
  todo = restated-same w goal.todo;
}

-- with some values of fresh symbols, and another state
pub before-still : (w : ℕ → Value) (goal : Goal) (s : State) (e : Var → Option Value) (free taken : Heap)
    → HoldsStill w goal e free taken (at_state goal s) → HoldsAsBefore w goal e free taken (at_state goal s)
before-still w goal s e free taken h = record {
  still = h;
  todo = restated-same h.values goal.todo;
}

-- where two terms of one value are assumed to be the same
pub before-equal : (w : ℕ → Value) (t u : Term) (goal : Goal) (e : Var → Option Value) (free taken : Heap)
    → term_value w t ≡ term_value w u → HoldsIn w goal e free taken
    → HoldsAsBefore w goal e free taken (assumed_equal t u goal)
unfolding EqualTermsMayBeAssumed still-same
before-equal w t u goal e free taken same h = record {
  still = still-same w goal (assumed_equal t u goal) e free taken
      (equal_terms_may_be_assumed w t u goal e free taken same h);
  todo = restated-equal w t u goal same;
}
