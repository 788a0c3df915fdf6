-- A part whose pieces are as they were is as it was.
-- Names: `unchanged-LAW`; `still-LAW` where how it stands was not touched.
use Rattle.std.specs.Prelude.{◌≡◌}
use Rattle.std.proofs.Common.{sym, ap, refl, subst}
use Rattle.sf_core.specs.Machine.Config.{Common}
use Rattle.sf_frame.specs.Checked.Effects.{IsSameCommon}
use Rattle.sf_frame.specs.Commons.{common_of}
use Rattle.sf_frame.specs.declared.shared.Shared.{Shared}
use Rattle.sf_part.specs.Checked.KeepsIsProp.{AreOwn}
use Rattle.sf_part.specs.declared.part.Part.{Part as CodePart}
use Rattle.sf_part.specs.declared.stand.Stand.{Stand as CodeStand}
use Rattle.sf_part.specs.Keeps.{Keeps}
use Rattle.sf_part.specs.Parts.{part_with}
use Rattle.sf_part.specs.PartView.{part_of}
use Rattle.sf_part.specs.Stands.{stand_in}
use Rattle.sf_part.specs.Timed.{TimedPart}
use Rattle.sf_part.proofs.Performed.{same-common, same-own, same-part}

module _ (a : CodePart) (stand : CodeStand) (now : Shared) (stands : stand_in stand ≡ stand_in a.stand)
    (common : common_of now ≡ common_of a.shared) where
  abbrev after : TimedPart
  after = part_with a.task stand now a.supply a.clock a.keeps a.log.items a.given

  pub unchanged-part : after ≡ part_of a
  unchanged-part = same-part a.task a.stand stand a.shared now a.supply a.clock a.keeps a.log.items
      a.given stands common

  pub unchanged-kept : Keeps after
  unchanged-kept = subst Keeps (sym unchanged-part) a.kept

  pub unchanged-own : AreOwn now.held a.task
  unchanged-own = same-own a.task a.shared now (ap (λ (z : Common). z.held) common) a.own

-- the same where only its cells and slots were touched, and are as they were
module _ (a : CodePart) (now : Shared) (same : IsSameCommon (common_of now) (common_of a.shared)) where
  abbrev common : common_of now ≡ common_of a.shared
  common = same-common (common_of now) (common_of a.shared) same

  pub still-part : part_with a.task a.stand now a.supply a.clock a.keeps a.log.items a.given ≡ part_of a
  still-part = unchanged-part a a.stand now refl common

  pub still-kept : Keeps (part_with a.task a.stand now a.supply a.clock a.keeps a.log.items a.given)
  still-kept = unchanged-kept a a.stand now refl common

  pub still-own : AreOwn now.held a.task
  still-own = unchanged-own a a.stand now refl common
