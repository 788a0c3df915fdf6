use Rattle.sf_cli.proofs.Journals.{journal-ended}
use Rattle.sf_cli.proofs.laws.journals_reach_their_ends.Goals as goal

pub returns : goal.returns
returns c = journal-ended (record {
  merged = c.merged_logs_reach_the_same.ensures;
  empty = c.merged_cells_are_empty.ensures;
  starts = c.beginnings_are_starts.ensures;
}) c.each_file_is_shallow.ensures c.elaborated_is_formed.ensures c.taken_tags_prove.ensures c.proofs_are_sound.ensures
