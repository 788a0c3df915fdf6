use Rattle.sf_cli.proofs.AReplay.{some-replay}
use Rattle.sf_cli.proofs.laws.each_replay_has_an_answer.Goals as goal

pub returns : goal.returns
returns c = some-replay (record {
  files = c.each_file_has_an_answer.ensures;
  shallow = c.each_file_is_shallow.ensures;
  formed = c.elaborated_is_formed.ensures;
  entries = c.entry_exists.ensures;
  starts = c.start_exists.ensures;
  events = c.starts_are_replayed.ensures;
})
