use Rattle.sf_rules.specs.Setting.{setting_of}
use Rattle.sf_goals.proofs.Ordering.{ordered}
use Rattle.sf_goals.proofs.walking.follow.Given as goal

-- the setting in which the annotations are in some order
abbrev pub ghost-apply_row : goal.ghost-apply_row
ghost-apply_row a = setting_of ordered a.arranged.now
