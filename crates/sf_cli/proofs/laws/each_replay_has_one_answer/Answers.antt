use Rattle.sf_cli.proofs.OneReplay.{replays-once}
use Rattle.sf_cli.proofs.laws.each_replay_has_one_answer.Goals as goal

pub returns : goal.returns
returns c = replays-once (record {
  files = c.each_file_is_decided.ensures;
  entries = c.entry_is_unique.ensures;
  starts = c.start_is_unique.ensures;
  beginnings = c.beginnings_are_unique.ensures;
  events = c.events_are_replayed_once.ensures;
})
