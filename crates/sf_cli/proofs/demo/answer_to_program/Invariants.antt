use Rattle.sf_cli.proofs.Ordering.{ordered}
use Rattle.sf_rules.specs.Setting.{setting_of}
use Rattle.sf_cli.proofs.demo.answer_to_program.Given as goal

abbrev pub ghost-verify : goal.ghost-verify
ghost-verify g a = setting_of ordered a.arranged.now
