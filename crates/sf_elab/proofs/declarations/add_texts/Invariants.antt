use Rattle.std.proofs.Common.{◌≡◌, drop, map, ◌++◌}
use Rattle.sf_elab.specs.Names.Texts.{text}
use Rattle.sf_elab.proofs.declarations.add_texts.Given as goal

-- those so far and those of what is left are all
abbrev pub invariant-loop-word : goal.invariant-loop-word
invariant-loop-word l = l.done ++ map (text l.bytes) (drop l.word-index l.words) ≡ l.initial.done ++ map (text l.bytes) l.words
