use Rattle.std.proofs.Common.{◌≡◌, drop}
use Rattle.sf_words.specs.WordsOf.{words_of}
use Rattle.sf_words.specs.Checked.Screen.{has_bundle}
use Rattle.sf_words.proofs.screen.has_bundle.Given as goal

abbrev pub invariant-loop-word : goal.invariant-loop-word
invariant-loop-word l = has_bundle (words_of l.words) ≡ has_bundle (drop l.word-index (words_of l.words))
