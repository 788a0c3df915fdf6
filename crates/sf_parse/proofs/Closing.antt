-- The laws of the crate, under the names of their functions in src/laws.rt.
use Rattle.std.proofs.Common.{sym, ◌∙◌, []}
use Rattle.sf_parse.proofs.Grammar.OneTree.{items_once}
use Rattle.sf_parse.specs.Checked.Laws.{EachFileIsOne, EachFileIsShallow, AnswerIsUnique, ShallowTreesAreWithin, TheVerdictIsExact}
use Rattle.sf_parse.proofs.Grammar.Depths.{items_shallow, items_within}
use Rattle.sf_parse.proofs.Machine.Faults.{file_or_fault, faults_once, files_without_fault}
use Rattle.sf_parse.proofs.Machine.Law.{exact}

pub each_file_is_one : EachFileIsOne
each_file_is_one ts one two f g = items_once one two f.nearest g.nearest (sym f.spells ∙ g.spells)

pub each_file_is_shallow : EachFileIsShallow
each_file_is_shallow ts tree f = f.shallow

pub answer_is_unique : AnswerIsUnique
answer_is_unique end ts = record { some = file_or_fault end ts; faults = faults_once end ts; apart = files_without_fault end ts }

pub shallow_trees_are_within : ShallowTreesAreWithin
shallow_trees_are_within tree = (items_shallow tree [], items_within tree [])

pub the_verdict_is_exact : TheVerdictIsExact
the_verdict_is_exact = exact
