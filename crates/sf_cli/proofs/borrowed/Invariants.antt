use Rattle.std.proofs.Common.{◌≡◌, map, take}
use Rattle.std.specs.String.{string_bytes}
use Rattle.sf_words.specs.WordsOf.{words_of}
use Rattle.sf_cli.proofs.borrowed.Given as goal

-- the texts are those of the words so far
abbrev pub invariant-loop-word : goal.invariant-loop-word
invariant-loop-word l = words_of l.texts.items ≡ map string_bytes (take l.word-index l.words)
