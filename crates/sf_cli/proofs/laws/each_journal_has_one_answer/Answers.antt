use Rattle.sf_cli.proofs.OneJournal.{journal-once}
use Rattle.sf_cli.proofs.laws.each_journal_has_one_answer.Goals as goal

pub returns : goal.returns
returns c = journal-once (record {
  files = c.each_file_is_decided.ensures;
  entries = c.entry_is_unique.ensures;
  starts = c.start_is_unique.ensures;
  beginnings = c.beginnings_are_unique.ensures;
  logs = c.logs_of_one_task_keep_its_order.ensures;
}) c.each_run_has_one_answer.ensures
