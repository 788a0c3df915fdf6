-- The laws of parts on which the tasks of a run rest, together.
-- Ordinary: each as its crate states it.
use Rattle.sf_own.specs.Checked.Laws.{ForksKeepSafe, GoingKeepsSafe}
use Rattle.sf_own.specs.Checked.LawsOfNeeds.{AbsentNeverComes, ContentsAreThere, SharesAreThere}
use Rattle.sf_part.specs.Checked.LawsOfGoing.{ChildrenArePastSetup, ChildrenGoOn, ForksHalve, GoingComposes, GoingKeepsPath, GoingSpends, GoingStaysPastSetup, PastSetupNothingSettles}
use Rattle.sf_region.specs.Checked.Laws.{StoppedTasksGoOn}

-- RunLaws: what is known of a task that goes on, and of what it has
pub record RunLaws : Type 0 where
  pub composes : GoingComposes
  pub path : GoingKeepsPath
  pub spends : GoingSpends
  pub past : GoingStaysPastSetup
  pub children_past : ChildrenArePastSetup
  pub no_settling : PastSetupNothingSettles
  pub halve : ForksHalve
  pub children : ChildrenGoOn
  pub safe : GoingKeepsSafe
  pub forks_safe : ForksKeepSafe
  pub no_absent : AbsentNeverComes
  pub contents : ContentsAreThere
  pub shares : SharesAreThere
  pub stopped : StoppedTasksGoOn
