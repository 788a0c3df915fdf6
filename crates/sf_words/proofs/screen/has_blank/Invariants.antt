use Rattle.std.proofs.Common.{◌≡◌, drop}
use Rattle.std.specs.List.{list_any}
use Rattle.sf_words.specs.Words.{is_blank}
use Rattle.sf_words.specs.WordsOf.{words_of}
use Rattle.sf_words.proofs.screen.has_blank.Given as goal

abbrev pub invariant-loop-word : goal.invariant-loop-word
invariant-loop-word l = list_any is_blank (words_of l.words) ≡ list_any is_blank (drop l.word-index (words_of l.words))
