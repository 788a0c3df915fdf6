use Rattle.sf_running_tests.proofs.Finishes.{finishes_of_files_read_back}
use Rattle.sf_running_tests.proofs.laws.finishes_of_files_read_back.Goals as goal

pub returns : goal.returns
returns c = finishes_of_files_read_back c.written_states_of_files_read_back.ensures
