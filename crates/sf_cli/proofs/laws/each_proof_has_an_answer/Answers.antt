use Rattle.sf_cli.proofs.AnAnswer.{some-proof}
use Rattle.sf_cli.proofs.laws.each_proof_has_an_answer.Goals as goal

pub returns : goal.returns
returns c = some-proof (record {
  shallow = c.each_file_is_shallow.ensures;
  formed = c.elaborated_is_formed.ensures;
  settings = c.setting_exists.ensures;
  texts = c.each_text_reads_once.ensures;
  refusals = c.proves_or_refused.ensures;
})
