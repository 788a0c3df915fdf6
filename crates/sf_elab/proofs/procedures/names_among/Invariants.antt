use Rattle.std.proofs.Common.{◌≡◌, ℕ, List, drop, ◌||◌}
use Rattle.sf_elab.specs.Bodies.Procedures.{is_among}
use Rattle.sf_elab.specs.Names.Table.{has}
use Rattle.sf_elab.proofs.procedures.names_among.Given as goal

-- what is left leads to the same
abbrev pub invariant-loop-word : goal.invariant-loop-word
invariant-loop-word l = (name : List ℕ) → (has name l.found || is_among l.bytes (drop l.word-index l.words) name) ≡ is_among l.bytes l.words name
