use Rattle.sf_running_tests.proofs.NamesInProofs.{written_proofs_of_files_read_back}
use Rattle.sf_running_tests.proofs.laws.written_proofs_of_files_read_back.Goals as goal

pub returns : goal.returns
returns c = written_proofs_of_files_read_back c.programs_that_are_read_have_names.ensures c.written_tags_read_back.ensures
