use Rattle.sf_cli.proofs.DemoAnswers.{demo-once}
use Rattle.sf_cli.proofs.laws.each_demo_has_one_answer.Goals as goal

pub returns : goal.returns
returns c = demo-once (record {
  files = c.each_file_is_decided.ensures;
  settings = c.setting_is_unique.ensures;
  verdicts = c.verdicts_are_unique.ensures;
}) c.each_file_has_one_answer.ensures
