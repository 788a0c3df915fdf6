-- Absurd: a goal whose state is absurd doesn't hold.
use Rattle.std.proofs.Common.{◌≡◌, Bool, true, false, cond, [], Some, None, refl, subst}
use Rattle.std.proofs.lemmas.Option.{same_Some}
use Rattle.sf_base.proofs.MapSplits.{union, splits-union}
use Rattle.sf_normal.specs.Checked.Laws.{AbsurdKeepsGoals}
use Rattle.sf_sym.specs.Checked.Lemmas.States.{held_states_are_not_absurd}
use Rattle.sf_sym.specs.Checked.Lemmas.TwoHeaps.{in-at}
use Rattle.sf_sym.specs.Checked.Laws.{HeldStatesAreNotAbsurd, HoldsAsBefore, KeptWith}
use Rattle.sf_sym.specs.Tests.{is_absurd}

pub absurd_keeps_goals : AbsurdKeepsGoals
unfolding AbsurdKeepsGoals HeldStatesAreNotAbsurd
absurd_keeps_goals goal left shape row = go (is_absurd goal.state) refl row
  where
    go : (b : Bool) → is_absurd goal.state ≡ b → cond b (Some []) None ≡ Some left → KeptWith goal left HoldsAsBefore
    go true i e = subst (λ gs. KeptWith goal gs HoldsAsBefore) (same_Some [] left e) (record {
      follow = tt;
      hold = λ w e free taken h.
          held_states_are_not_absurd w goal e (union free taken)
          (in-at w goal e (union free taken) free taken (splits-union h.disjoint) h) i;
    })
    go false i e = absurd (cc)
