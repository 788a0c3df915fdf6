use Rattle.sf_cli.proofs.OneAnswer.{reads-program}
use Rattle.sf_cli.proofs.laws.each_file_is_one_program.Goals as goal

pub returns : goal.returns
returns c = reads-program c.each_file_reads_once.ensures c.each_file_is_one.ensures c.each_file_is_one-2.ensures
