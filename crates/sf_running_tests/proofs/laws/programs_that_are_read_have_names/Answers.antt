use Rattle.sf_running_tests.proofs.Names.{programs_that_are_read_have_names}
use Rattle.sf_running_tests.proofs.laws.programs_that_are_read_have_names.Goals as goal

pub returns : goal.returns
returns c = programs_that_are_read_have_names c.each_token_is_its_text.ensures c.names_are_unique.ensures
