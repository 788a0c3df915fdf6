use Rattle.sf_cli.proofs.Witnesses.{witness-some}
use Rattle.sf_cli.proofs.laws.each_witness_has_an_answer.Goals as goal

pub returns : goal.returns
returns c = witness-some c.each_file_has_an_answer.ensures c.each_goal_has_a_text.ensures
