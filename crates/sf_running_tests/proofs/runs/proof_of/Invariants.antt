use Rattle.sf_rules.specs.Setting.{setting_of}
use Rattle.sf_running_tests.proofs.Ordering.{ordered}
use Rattle.sf_running_tests.proofs.runs.proof_of.Given as goal

abbrev pub ghost-verify : goal.ghost-verify
ghost-verify a = setting_of ordered a.arranged.now

abbrev pub ghost-check : goal.ghost-check
ghost-check a = setting_of ordered a.arranged.now
