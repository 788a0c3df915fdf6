use Rattle.std.proofs.Common.{◌≡◌, drop, map, ◌++◌}
use Rattle.sf_elab.specs.Annotations.Flat.{flats, flat_of, words_in}
use Rattle.sf_elab.proofs.flat.add_words.Given as goal

-- those so far and those of what is left are all
abbrev pub invariant-loop-c : goal.invariant-loop-c
invariant-loop-c l = l.words.items ++ words_in (flats (map flat_of (drop l.c-index l.level))) ≡ l.initial.words.items ++ words_in (flats (map flat_of l.level))
