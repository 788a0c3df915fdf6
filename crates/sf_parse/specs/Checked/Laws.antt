-- Laws of reading a file: the machine's verdict is the grammar's, tokens are one file at most and no deeper than the limit, and
-- they have one answer, that they are a file or a fault. Where no token is free of the limit, it is one on the depth of a tree.
-- Ordinary: the viable prefix property, as in Aho, Sethi, Ullman, "Compilers" (1986), section 4.1.
use Rattle.std.specs.Prelude.{◌≡◌, ◌≤◌, ◌↔◌, ◌⊎◌, suc, List, [], ◌∷◌, ◌++◌, length}
use Rattle.sf_base.specs.declared.limits.TheConstants.{NESTING}
use Rattle.sf_base.specs.declared.place.Place.{Place}
use Rattle.sf_ast.specs.Depth.{items_depth}
use Rattle.sf_ast.specs.Surface.{Item}
use Rattle.sf_parse.specs.Leaf.{Leaf}
use Rattle.sf_lex.specs.declared.token.Token.{Token}
use Rattle.sf_parse.specs.declared.fault.ParseFault.{ParseFault}
use Rattle.sf_parse.specs.Grammar.{items}
use Rattle.sf_parse.specs.Checked.Machine.{Verdict, accepted, unexpected, too_deep, verdict, items as some_items}
use Rattle.sf_parse.specs.Nearest.{IsNearest}
use Rattle.sf_parse.specs.Nesting.{ItemsWithin}
use Rattle.sf_parse.specs.Parsing.{CanBegin, CanBeginAny, IsFile, IsFault}

-- the verdict over a whole file, with nothing free of the limit on nesting
abbrev pub verdict_of : List Leaf → Verdict
verdict_of ts = verdict 0 ts (some_items ∷ [])

-- the tokens of a file within the limit
pub record Spelled (ts : List Leaf) : Type 0 where
  pub tree : List Item
  pub spells : ts ≡ items tree []
  pub nearest : IsNearest tree
  pub within : ItemsWithin tree 0 []

-- accepted are exactly the files; else the fault is at the first token that does not go on
pub record IsExact (ts : List Leaf) : Type 0 where
  pub file : Spelled ts → verdict_of ts ≡ accepted
  pub accepts : verdict_of ts ≡ accepted → Spelled ts
  pub wrong : (front : List Leaf) (t : Leaf) (back : List Leaf) → ts ≡ front ++ t ∷ back → verdict_of ts ≡ unexpected (suc (length back)) → CanBegin front × (CanBeginAny (front ++ t ∷ []) → ⊥)
  pub ends : verdict_of ts ≡ unexpected 0 → CanBegin ts × (Spelled ts → ⊥)
  pub deeper : (front : List Leaf) (t : Leaf) (back : List Leaf) → ts ≡ front ++ t ∷ back → verdict_of ts ≡ too_deep (suc (length back)) → CanBegin front × CanBeginAny (front ++ t ∷ []) × (CanBegin (front ++ t ∷ []) → ⊥)

-- the machine's verdict is exact over all tokens
abbrev pub TheVerdictIsExact : Type 0
TheVerdictIsExact = (ts : List Leaf) → IsExact ts

-- tokens are at most one file: its tree, with the places of its nodes
abbrev pub EachFileIsOne : Type 0
EachFileIsOne = (ts : List Token) (one two : List Item) → IsFile ts one → IsFile ts two → one ≡ two

-- nothing in a file is deeper than the limit
abbrev pub EachFileIsShallow : Type 0
EachFileIsShallow = (ts : List Token) (tree : List Item) → IsFile ts tree → items_depth tree ≤ NESTING

-- where no token is free of the limit, a tree is within it exactly where its depth is
abbrev pub ShallowTreesAreWithin : Type 0
ShallowTreesAreWithin = (tree : List Item) → ItemsWithin tree 0 [] ↔ (items_depth tree ≤ NESTING)

-- tokens have one answer: they are a file, with the places of its nodes, or have a fault, which is one alone, and never both
pub record HasOneAnswer (end : Place) (ts : List Token) : Type 0 where
  pub some : ((tree : List Item) × IsFile ts tree) ⊎ ((f : ParseFault) × IsFault end ts f)
  pub faults : (e f : ParseFault) → IsFault end ts e → IsFault end ts f → e ≡ f
  pub apart : (tree : List Item) (f : ParseFault) → IsFile ts tree → IsFault end ts f → ⊥

-- so it is with all tokens, wherever the file ends
abbrev pub AnswerIsUnique : Type 0
AnswerIsUnique = (end : Place) (ts : List Token) → HasOneAnswer end ts
