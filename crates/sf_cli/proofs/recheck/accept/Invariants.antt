use Rattle.sf_cli.proofs.Ordering.{ordered}
use Rattle.sf_rules.specs.Setting.{setting_of}
use Rattle.sf_cli.proofs.recheck.accept.Given as goal

abbrev pub ghost-check : goal.ghost-check
ghost-check a = setting_of ordered a.arranged.now
