use Rattle.sf_cli.proofs.Ordering.{ordered}
use Rattle.sf_rules.specs.Setting.{setting_of}
use Rattle.sf_cli.proofs.witness.answer_to_program.Given as goal

abbrev pub ghost-verify : goal.ghost-verify
ghost-verify a = setting_of ordered a.arranged.now
