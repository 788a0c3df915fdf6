use Rattle.sf_cli.proofs.OneAnswer.{answer-decided}
use Rattle.sf_cli.proofs.laws.each_file_is_decided.Goals as goal

pub returns : goal.returns
returns c = answer-decided (record {
  tokens = c.each_file_reads_once.ensures;
  trees = c.each_file_is_one.ensures;
  grammar = c.answer_is_unique.ensures;
  names = c.each_file_is_one-2.ensures;
  breaches = c.each_program_has_one_answer.ensures;
  orders = c.never_taken_is_undetermined.ensures;
})
