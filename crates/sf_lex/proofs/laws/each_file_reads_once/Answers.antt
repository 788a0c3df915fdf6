use Rattle.sf_lex.proofs.Closing.{each_file_reads_once}
use Rattle.sf_lex.proofs.laws.each_file_reads_once.Goals as goal

pub returns : goal.returns
returns c = each_file_reads_once
