-- The tree of a file's tokens, and the first token that goes wrong: said of the grammar alone.
-- Ordinary: the viable prefix property, as in Aho, Sethi, Ullman, "Compilers" (1986), section 4.1.
use Rattle.std.specs.Prelude.{◌≡◌, ◌≤◌, ◌++◌, List, [], ◌∷◌, length, ◌⊎◌}
use Rattle.sf_base.specs.declared.limits.TheConstants.{NESTING}
use Rattle.sf_base.specs.declared.place.Place.{Place}
use Rattle.sf_ast.specs.Depth.{items_depth}
use Rattle.sf_ast.specs.Surface.{Item}
use Rattle.sf_lex.specs.declared.token.Token.{Token}
use Rattle.sf_parse.specs.declared.fault.ParseFault.{ParseFault}
use Rattle.sf_parse.specs.declared.fault.ParseFault.TheVariants.{Unexpected, TooDeep, OutOfMemory}
use Rattle.sf_parse.specs.Grammar.{items}
use Rattle.sf_parse.specs.Leaf.{Leaf, leaf, leaves}
use Rattle.sf_parse.specs.Nearest.{IsNearest}
use Rattle.sf_parse.specs.Nesting.{ItemsWithin}

-- the tokens are those of the tree, with its texts, numbers and places; of the trees with these tokens it is the one that is
-- meant, and nothing in it is nested deeper than the limit
pub record IsFile (ts : List Token) (tree : List Item) : Type 0 where
  pub spells : leaves ts ≡ items tree []
  pub nearest : IsNearest tree
  pub shallow : items_depth tree ≤ NESTING

-- some file begins so, and nothing that begins in this front is nested deeper than the limit
pub record CanBegin (front : List Leaf) : Type 0 where
  pub back : List Leaf
  pub tree : List Item
  pub spells : front ++ back ≡ items tree []
  pub nearest : IsNearest tree
  pub within : ItemsWithin tree (length back) []

-- some file begins so, however deep
pub record CanBeginAny (front : List Leaf) : Type 0 where
  pub back : List Leaf
  pub tree : List Item
  pub spells : front ++ back ≡ items tree []
  pub nearest : IsNearest tree

-- the tokens before it begin a file, and with it none
pub record IsUnexpected (ts : List Token) (place : Place) : Type 0 where
  pub front : List Token
  pub token : Token
  pub back : List Token
  pub split : ts ≡ front ++ token ∷ back
  pub there : place ≡ token.place
  pub begins : CanBegin (leaves front)
  pub no_further : CanBeginAny (leaves front ++ leaf token ∷ []) → ⊥

-- the tokens begin a file and are none; the place is that of the file's end
pub record IsUnexpectedEnd (end : Place) (ts : List Token) (place : Place) : Type 0 where
  pub there : place ≡ end
  pub begins : CanBegin (leaves ts)
  pub no_file : (tree : List Item) → IsFile ts tree → ⊥

-- the tokens before it begin a file, and with it only a deeper one
pub record IsTooDeep (ts : List Token) (place : Place) : Type 0 where
  pub front : List Token
  pub token : Token
  pub back : List Token
  pub split : ts ≡ front ++ token ∷ back
  pub there : place ≡ token.place
  pub begins : CanBegin (leaves front)
  pub begins_deeper : CanBeginAny (leaves front ++ leaf token ∷ [])
  pub no_further : CanBegin (leaves front ++ leaf token ∷ []) → ⊥

-- the fault of a file's tokens, where the file ends at that place
abbrev pub IsFault : (end : Place) → List Token → ParseFault → Type 0
IsFault end ts (Unexpected place) = IsUnexpected ts place ⊎ IsUnexpectedEnd end ts place
IsFault end ts (TooDeep place) = IsTooDeep ts place
IsFault end ts OutOfMemory = ⊥
