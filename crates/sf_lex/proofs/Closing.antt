-- The laws of the crate, under the names of their functions in src/laws.rt.
use Rattle.sf_lex.proofs.Once.{once}
use Rattle.sf_lex.specs.Checked.Laws.{EachFileReadsOnce, EachTokenIsItsText}
use Rattle.sf_lex.proofs.Texts.{texts-each}

pub each_file_reads_once : EachFileReadsOnce
each_file_reads_once = once

pub each_token_is_its_text : EachTokenIsItsText
each_token_is_its_text = texts-each
