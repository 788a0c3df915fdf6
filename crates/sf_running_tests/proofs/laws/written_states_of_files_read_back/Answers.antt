use Rattle.sf_running_tests.proofs.Names.{written_states_of_files_read_back}
use Rattle.sf_running_tests.proofs.laws.written_states_of_files_read_back.Goals as goal

pub returns : goal.returns
returns c = written_states_of_files_read_back c.programs_that_are_read_have_names.ensures c.elaborated_is_formed.ensures c.written_states_read_back.ensures
