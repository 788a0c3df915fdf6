use Rattle.sf_cli.proofs.AnAnswer.{some-answer}
use Rattle.sf_cli.proofs.laws.each_file_has_an_answer.Goals as goal

pub returns : goal.returns
returns c = some-answer (record {
  tokens = c.each_file_reads_once.ensures;
  grammar = c.answer_is_unique.ensures;
  shallow = c.each_file_is_shallow.ensures;
  names = c.each_file_is_one.ensures;
  formed = c.elaborated_is_formed.ensures;
  variables = c.each_program_has_an_answer.ensures;
  orders = c.undetermined_annotations_have_place.ensures;
  settings = c.setting_exists.ensures;
  verdicts = c.programs_have_verdicts.ensures;
})
