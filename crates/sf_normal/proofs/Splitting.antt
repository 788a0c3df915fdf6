-- Split: two terms have one value, or different ones.
use Rattle.std.specs.Prelude.{◌⊎◌}
use Rattle.std.proofs.Common.{◌≡◌, ◌≢◌, ℕ, Bool, true, false, ◌&&◌, cond, not, [], ◌∷◌, Option, Some, None, refl, subst, inl, inr, arith}
use Rattle.std.proofs.lemmas.Option.{same_Some}
use Rattle.sf_base.proofs.Bools.{and-left, and-right}
use Rattle.sf_base.specs.declared.ids.Var.{Var}
use Rattle.sf_base.specs.declared.value.Value.{Value}
use Rattle.sf_base.specs.HeapStore.{Heap}
use Rattle.sf_core.proofs.Assertions.Values.{value-which}
use Rattle.sf_sym.specs.Checked.Lemmas.Keeping.{before-equal, before-same, follows-equal}
use Rattle.sf_normal.specs.Checked.Laws.{SplitKeepsGoals}
use Rattle.sf_sym.specs.Checked.Lemmas.TwoHeaps.{assumed_terms_are_below, differing_terms_may_be_assumed}
use Rattle.sf_sym.specs.Below.{is_below}
use Rattle.sf_sym.specs.Equalities.{assumed_apart, assumed_equal, with_pair}
use Rattle.sf_sym.specs.Holds.{term_value}
use Rattle.sf_sym.specs.HoldsIn.{HoldsIn}
use Rattle.sf_sym.specs.Checked.Laws.{AssumedTermsAreBelow, DifferingTermsMayBeAssumed, HoldsAsBefore, KeptWith, SomeOf}
use Rattle.sf_sym.specs.Tests.{same_term}

pub split_keeps_goals : SplitKeepsGoals
unfolding SplitKeepsGoals AssumedTermsAreBelow DifferingTermsMayBeAssumed
split_keeps_goals t u goal left shape row =
    go (not (same_term t u) && (is_below goal.state.next_sym t && is_below goal.state.next_sym u)) refl row
  where
    holds : (w : ℕ → Value) (e : Var → Option Value) (free taken : Heap) → HoldsIn w goal e free taken
        → (term_value w t ≡ term_value w u) ⊎ (term_value w t ≢ term_value w u)
        → SomeOf (HoldsAsBefore w goal e free taken) (assumed_equal t u goal ∷ assumed_apart t u goal ∷ [])
    holds w e free taken h (inl same) =
        inl (before-equal w t u goal e free taken same h)
    holds w e free taken h (inr other) =
        inr (inl (before-same w goal (with_pair t u goal.state) e free taken
        (differing_terms_may_be_assumed w t u goal e free taken other h)))

    go : (b : Bool)
        → (not (same_term t u) && (is_below goal.state.next_sym t && is_below goal.state.next_sym u)) ≡ b
        → cond b (Some (assumed_equal t u goal ∷ assumed_apart t u goal ∷ [])) None ≡ Some left
        → KeptWith goal left HoldsAsBefore
    go true i e =
        let both = and-right (not (same_term t u))
        (is_below goal.state.next_sym t && is_below goal.state.next_sym u) i in
        let one = and-left (is_below goal.state.next_sym t) (is_below goal.state.next_sym u) both in
        let two = and-right (is_below goal.state.next_sym t) (is_below goal.state.next_sym u) both in
        let after = assumed_terms_are_below t u goal shape.below one two in
        subst (λ gs. KeptWith goal gs HoldsAsBefore) (same_Some (assumed_equal t u goal ∷ assumed_apart t u goal ∷ []) left e) (record {
          follow = (
            follows-equal t u goal shape.below one two,
            (record { below = after.1; symbols = omega arith; links = refl; formed = λ f. f }, tt),
          );
          hold = λ w e free taken h.
              holds w e free taken h (value-which (term_value w t) (term_value w u));
        })
    go false i e = absurd (cc)
