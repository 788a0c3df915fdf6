use Rattle.sf_cli.proofs.Witnesses.{witness-one}
use Rattle.sf_cli.proofs.laws.each_witness_has_one_answer.Goals as goal

pub returns : goal.returns
returns c = witness-one (record {
  files = c.each_file_is_decided.ensures;
  settings = c.setting_is_unique.ensures;
  verdicts = c.verdicts_are_unique.ensures;
}) c.each_goal_has_one_text.ensures
