use Rattle.sf_rules.specs.Setting.{setting_of}
use Rattle.sf_goals.proofs.Ordering.{ordered}
use Rattle.sf_goals.proofs.walking.first.Given as goal

-- the setting in which the annotations are in some order
abbrev pub ghost-first_goal : goal.ghost-first_goal
ghost-first_goal a = setting_of ordered a.arranged.now
