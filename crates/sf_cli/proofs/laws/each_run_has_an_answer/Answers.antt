use Rattle.sf_cli.proofs.ARun.{some-run}
use Rattle.sf_cli.proofs.laws.each_run_has_an_answer.Goals as goal

pub returns : goal.returns
returns c = some-run (record {
  files = c.each_file_has_an_answer.ensures;
  shallow = c.each_file_is_shallow.ensures;
  formed = c.elaborated_is_formed.ensures;
  prove = c.taken_tags_prove.ensures;
  sound = c.proofs_are_sound.ensures;
  entries = c.entry_exists.ensures;
  starts = c.start_exists.ensures;
  outcomes = c.starts_have_one_outcome.ensures;
  beginnings = c.beginnings_are_starts.ensures;
  one = c.beginnings_are_unique.ensures;
  ends = c.ends_are_numbered.ensures;
  spendings = c.spent_runs_have_used_all.ensures;
  tries = c.waiting_runs_try_in_vain.ensures;
  bases = c.bases_are_free.ensures;
  free = c.units_stay_free.ensures;
})
