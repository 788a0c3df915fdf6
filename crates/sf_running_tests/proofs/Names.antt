-- The laws of src/laws.rt, under the names of their functions, from those that their functions cite.
use Rattle.std.proofs.Common.{sym, subst}
use Rattle.std.specs.List.{AllByRecursion}
use Rattle.sf_core.specs.Program.Formed.{IsFormed}
use Rattle.sf_elab.specs.Checked.Laws.{ElaboratedIsFormed, NamesAreUnique}
use Rattle.sf_lex.specs.Checked.Laws.{EachTokenIsItsText}
use Rattle.sf_state.specs.Checked.Laws.{WrittenStatesReadBack}
use Rattle.sf_running_tests.proofs.NamesInTrees.{items-named}
use Rattle.sf_running_tests.proofs.NamesOfPrograms.{program-named}
use Rattle.sf_running_tests.proofs.NamesOfTokens.{FitsName, leaves-fit}
use Rattle.sf_running_tests.specs.Checked.Laws.{ProgramsThatAreReadHaveNames, WrittenStatesOfFilesReadBack}

pub programs_that_are_read_have_names : EachTokenIsItsText → NamesAreUnique → ProgramsThatAreReadHaveNames
unfolding ProgramsThatAreReadHaveNames
programs_that_are_read_have_names texts unique bytes ts tree p read file e =
    let fit = leaves-fit bytes 0 ts (texts bytes ts read) in
    program-named bytes tree p (items-named bytes tree (subst (AllByRecursion (FitsName bytes)) file.spells fit)) unique e

pub written_states_of_files_read_back : ProgramsThatAreReadHaveNames → ElaboratedIsFormed → WrittenStatesReadBack → WrittenStatesOfFilesReadBack
unfolding ProgramsThatAreReadHaveNames WrittenStatesReadBack WrittenStatesOfFilesReadBack
written_states_of_files_read_back named formed back bytes ts tree p f g vars heap text read file e there w finish =
    let in_order : IsFormed p = subst IsFormed (sym e.same) (formed bytes tree file.shallow e.sound) in
    back p f g vars heap text in_order (named bytes ts tree p read file e) there w finish
