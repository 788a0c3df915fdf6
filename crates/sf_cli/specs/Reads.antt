-- Reads: the program that a file's bytes are: its tokens, their tree, and the tree's names as
-- numbers.
-- The language is that of Berdine, Calcagno and O'Hearn, "Smallfoot" (2005), in this project's own
-- profile.
use Rattle.std.specs.Prelude.{List}
use Rattle.sf_ast.specs.Surface.{Item}
use Rattle.sf_core.specs.Program.Syntax.{Program}
use Rattle.sf_elab.specs.Files.Elaborated.{Elaborates}
use Rattle.sf_lex.specs.declared.token.Token.{Token}
use Rattle.sf_lex.specs.Reading.{AreTokens}
use Rattle.sf_parse.specs.Parsing.{IsFile}
use Rattle.sf_words.specs.Words.{Text}

-- Reads: the bytes are tokens, the tokens are a file, and the file is that program
pub record Reads (bytes : Text) (p : Program) : Type 0 where
  pub tokens : List Token
  pub tree : List Item
  pub spelled : AreTokens bytes tokens
  pub parsed : IsFile tokens tree
  pub elaborated : Elaborates bytes tree p
