use Rattle.sf_cli.proofs.OneRun.{run-once}
use Rattle.sf_cli.proofs.laws.each_run_has_one_answer.Goals as goal

pub returns : goal.returns
returns c = run-once (record {
  verdicts = record {
    files = c.each_file_is_decided.ensures;
    settings = c.setting_is_unique.ensures;
    verdicts = c.verdicts_are_unique.ensures;
  };
  entries = c.entry_is_unique.ensures;
  starts = c.start_is_unique.ensures;
  beginnings = c.beginnings_are_unique.ensures;
  outcomes = c.outcomes_are_unique.ensures;
})
