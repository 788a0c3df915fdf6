use Rattle.sf_cli.proofs.OneAnswer.{proof-once}
use Rattle.sf_cli.proofs.laws.each_proof_has_one_answer.Goals as goal

pub returns : goal.returns
returns c = proof-once (record {
  settings = c.setting_is_unique.ensures;
  texts = c.each_text_reads_once.ensures;
  refusals = c.refused_once.ensures;
  apart = c.proves_not_refused.ensures;
})
