use Rattle.sf_cli.proofs.Journals.{journal-some}
use Rattle.sf_cli.proofs.laws.each_journal_has_an_answer.Goals as goal

pub returns : goal.returns
returns c = journal-some c.runs_have_journals.ensures c.numbered_runs_reach.ensures c.each_run_has_an_answer.ensures
