-- The join of two children that have ended keeps a parent safe.
-- Names: the lemma of the law has the name of its function.
use Rattle.std.specs.Prelude.{◌≡◌, ℕ, List, [], ◌∷◌}
use Rattle.std.proofs.Common.{sym, ap, ◌∙◌, subst}
use Rattle.sf_core.specs.Machine.Config.{Frame}
use Rattle.sf_core.specs.Machine.Step.{Event}
use Rattle.sf_core.specs.Machine.Whole.{stand_of, waiting}
use Rattle.sf_core.specs.Program.Syntax.{Program}
use Rattle.sf_own.proofs.Standing.{running-safe}
use Rattle.sf_own.proofs.Tokens.{holds-same}
use Rattle.sf_own.proofs.Unions.{children-sums, tokens-same}
use Rattle.sf_own.specs.Checked.Laws.{JoinsKeepSafe}
use Rattle.sf_own.specs.Checked.Safe.{HoldsWithin, IsSafe, IsSafeWaiting, own_of}
use Rattle.sf_part.specs.Steps.{Joins}
use Rattle.sf_part.specs.Timed.{TimedPart}
use Rattle.sf_safe.specs.Checked.Contract.{Known, Returned}
use Rattle.sf_safe.specs.Checked.Invariant.{Running, Waiting}
use Rattle.sf_safe.specs.Checked.Own.{Own}
use Rattle.sf_safe.specs.Checked.Owns.{Sums, group, opened, order, own-same, pair, two as both_of}

-- a parent goes on with what its children give back
pub goes-on : (p : Program) (n : ℕ) (owed left right : Known) (frames : List Frame)
    (w mine one other : Own) → Sums w (mine ∷ one ∷ other ∷ [])
    → Waiting p n owed frames left right mine
    → Returned p left one → Returned p right other → Running p n owed frames w
goes-on p n owed left right [] w mine one other all s x y = absurd s
goes-on p n owed left right (f ∷ below) w mine one other all (v, k) x y =
    let parts = opened (k.left ∷ k.right ∷ []) (one ∷ other ∷ []) all (both_of k.parts) in
    let back = group (k.left ∷ k.right ∷ [])
    (order (2 ∷ 2 ∷ []) (k.left ∷ k.right ∷ one ∷ other ∷ []) w parts) in
    let m = group (k.right ∷ []) back.sums in (
      v,
      record {
        left = m.both;
        right = k.right;
        parts = pair m.sums;
        first = k.first one other back.both m.both x y back.parts m.parts;
        second = k.second;
      },
    )

module _ (p : Program) (owed left right : Known) (ev : Event) (before one two after : TimedPart)
    (j : Joins p ev before one two after) (s : IsSafeWaiting p owed left right before.part)
    (first : IsSafe p left one.part) (second : IsSafe p right two.part) where
  same : own_of j.all ≡ own_of after.part
  same =
      let common = j.acts.steps.2 in
      let holds = holds-same j.all after.part (ap (λ z. z.held) common) in
      own-same (own_of j.all) (own_of after.part) (sym (ap (λ z. z.heap) common))
      (sym (ap (λ z. z.store) common)) (tokens-same j.all after.part (sym holds))

  within : HoldsWithin p after.part
  within r e =
      let common = j.acts.steps.2 in
      let holds = holds-same j.all after.part (ap (λ z. z.held) common) in
      s.within r (ap (λ h. h r) (sym (holds ∙ j.children.holds)) ∙ e)

  waits_with : s.frames ≡ j.frames
  waits_with =
      let stand : waiting s.frames ≡ waiting j.frames =
      sym s.waits ∙ sym j.children.stand ∙ j.acts.from_is in cc

  pub join-safe : IsSafe p owed after.part
  join-safe = record {
    within = within;
    frames = j.frames;
    runs = j.acts.to_is ∙ ap stand_of j.acts.steps.3;
    safe = λ n. subst (Running p n owed j.frames) same
        (goes-on p n owed left right j.frames (own_of j.all) (own_of before.part)
        (own_of one.part) (own_of two.part)
        (children-sums before.part one.part two.part j.all j.children)
        (subst (λ z. Waiting p n owed z left right (own_of before.part)) waits_with (s.safe n))
        (running-safe p left one.part [] first j.left_ended n)
        (running-safe p right two.part [] second j.right_ended n));
  }

pub joins_keep_safe : JoinsKeepSafe
unfolding JoinsKeepSafe
joins_keep_safe p accepted owed left right ev before one two after j s first second =
    join-safe p owed left right ev before one two after j s first second
