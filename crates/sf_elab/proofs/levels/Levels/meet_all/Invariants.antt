use Rattle.std.proofs.Common.{◌≡◌, drop}
use Rattle.sf_elab.specs.Annotations.Existentials.{meet_all}
use Rattle.sf_elab.proofs.levels.Levels.meet_all.Given as goal

-- what is left leads to the same
abbrev pub invariant-loop-word : goal.invariant-loop-word
invariant-loop-word l = meet_all l.bytes l.self (drop l.word-index l.words) ≡ meet_all l.bytes l.initial.self l.words
