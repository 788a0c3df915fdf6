use Rattle.sf_cli.proofs.OneAnswer.{answer-once}
use Rattle.sf_cli.proofs.laws.each_file_has_one_answer.Goals as goal

pub returns : goal.returns
returns c = answer-once (record {
  files = c.each_file_is_decided.ensures;
  settings = c.setting_is_unique.ensures;
  verdicts = c.verdicts_are_unique.ensures;
})
