-- The laws of parts on which tasks that go on alone rest, together.
-- Ordinary: each as its crate states it.
use Rattle.sf_own.specs.Checked.Laws.{FirstPartsAreSafe, ForksKeepSafe, GoingKeepsSafe}
use Rattle.sf_own.specs.Checked.LawsOfNeeds.{AbsentNeverComes, AllContentsAreThere, SharesAreThere}
use Rattle.sf_part.specs.Checked.Laws.{FirstPartsAreWhole, ForksAreSteps, PartsInAnyOrder}
use Rattle.sf_part.specs.Checked.LawsOfGoing.{EndedChildrenMayBeTakenBack, ForksHalve, GoingKeepsPath, GoingSpends, GoingStaysPastSetup, PastSetupNothingSettles}
use Rattle.sf_part.specs.Checked.LawsOfSettingUp.{FreshPartsSetUp, SettingUpGoesOn, SettingUpIsAlone}
use Rattle.sf_part.specs.Checked.LawsOfTime.{StampsRise}
use Rattle.sf_part.specs.Checked.LawsOfWhole.{ChildrenAreApart}
use Rattle.sf_setup.specs.Checked.Laws.{EventsAloneAreSteps}

-- RunLaws: what is known of a task that goes on, of what it has, and of the whole that it belongs
-- to
pub record RunLaws : Type 0 where
  pub path : GoingKeepsPath
  pub spends : GoingSpends
  pub past : GoingStaysPastSetup
  pub no_settling : PastSetupNothingSettles
  pub halve : ForksHalve
  pub back : EndedChildrenMayBeTakenBack
  pub sets_up : FreshPartsSetUp
  pub setting_up : SettingUpGoesOn
  pub nobody : SettingUpIsAlone
  pub first_safe : FirstPartsAreSafe
  pub safe : GoingKeepsSafe
  pub forks_safe : ForksKeepSafe
  pub no_absent : AbsentNeverComes
  pub contents : AllContentsAreThere
  pub shares : SharesAreThere
  pub rise : StampsRise
  pub first_whole : FirstPartsAreWhole
  pub forks : ForksAreSteps
  pub order : PartsInAnyOrder
  pub apart : ChildrenAreApart
  pub steps : EventsAloneAreSteps
