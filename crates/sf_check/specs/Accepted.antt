-- What a proof holds: the program that is proved and the tags that prove it.
-- Ordinary: the parts of a pair.
use Rattle.std.specs.Prelude.{List}
use Rattle.sf_precise.specs.declared.arranged.Arranged.{Arranged}
use Rattle.sf_sym.specs.declared.tag.Tag.{Tag}

-- Accepted: what contracts see of a proof
pub record Accepted : Type 0 where
  pub arranged : Arranged
  pub tags : List Tag

-- the program
abbrev pub arranged_in : Accepted → Arranged
arranged_in proof = proof.arranged

-- the tags
abbrev pub tags_in : Accepted → List Tag
tags_in proof = proof.tags
