-- FileFault: why a file is refused, the first cause in the order of work.
-- That is: its length and tokens, the grammar, names, the conditions on variables, that annotations
-- are determined; each is its own crate's definition.
use Rattle.std.specs.Prelude.{◌≡◌, Some, List}
use Rattle.std.specs.List.{All}
use Rattle.sf_ast.specs.Surface.{Item}
use Rattle.sf_base.specs.declared.place.Place.{Place}
use Rattle.sf_calls.specs.FirstBreach.{Conditions}
use Rattle.sf_core.specs.Assertions.Determined.{Determined}
use Rattle.sf_core.specs.Program.Syntax.{Program}
use Rattle.sf_elab.specs.declared.fault.NameFault.{NameFault}
use Rattle.sf_elab.specs.Files.Elaborated.{FirstFault}
use Rattle.sf_lex.specs.declared.fault.LexFault.{LexFault}
use Rattle.sf_lex.specs.declared.token.Token.{Token}
use Rattle.sf_lex.specs.Reading.{AreTokens, IsFault as IsTokenFault, end_place}
use Rattle.sf_parse.specs.declared.fault.ParseFault.{ParseFault}
use Rattle.sf_parse.specs.Parsing.{IsFile, IsFault as IsGrammarFault}
use Rattle.sf_precise.specs.Annotations.{annotations_in, IsFirstPlace, NeverTakenIn}
use Rattle.sf_vars.specs.declared.fault.VarFault.{VarFault}
use Rattle.sf_vars.specs.Faults.{IsFirstFault}
use Rattle.sf_cli.specs.declared.refusal.Refusal.{Refusal}
use Rattle.sf_cli.specs.declared.refusal.Refusal.TheVariants.{At}
use Rattle.sf_cli.specs.declared.refusal.RefusalKind.TheVariants.{Undetermined}
use Rattle.sf_cli.specs.Reads.{Reads}
use Rattle.sf_cli.specs.Refusals.{of_tokens, of_grammar, of_names, of_variables}
use Rattle.sf_words.specs.Words.{Text}

-- the bytes are no program
pub data ReadFault (bytes : Text) (r : Refusal) : Type 0 where
  in_tokens : (e : LexFault) → IsTokenFault bytes e → r ≡ of_tokens e → ReadFault bytes r
  in_grammar : (ts : List Token) (e : ParseFault) → AreTokens bytes ts → IsGrammarFault (end_place bytes) ts e
      → r ≡ of_grammar e → ReadFault bytes r
  in_names : (ts : List Token) (tree : List Item) (e : NameFault) → AreTokens bytes ts → IsFile ts tree
      → FirstFault bytes tree e → r ≡ of_names e → ReadFault bytes r

-- the program breaks a condition on variables, or an annotation of it is not determined
pub data ProgramFault (p : Program) (r : Refusal) : Type 0 where
  in_variables : (e : VarFault) → IsFirstFault p e → r ≡ of_variables e → ProgramFault p r
  in_order : (at : Place) → Conditions p → IsFirstPlace (NeverTakenIn (annotations_in p)) (Some at)
      → r ≡ At Undetermined at → ProgramFault p r

-- FileFault: the one or the other
pub data FileFault (bytes : Text) (r : Refusal) : Type 0 where
  unread : ReadFault bytes r → FileFault bytes r
  unfit : (p : Program) → Reads bytes p → ProgramFault p r → FileFault bytes r

-- the bytes are that program, and nothing is wrong with it
pub record Admits (bytes : Text) (p : Program) : Type 0 where
  pub reads : Reads bytes p
  pub conditions : Conditions p
  pub determined : All (λ a. Determined a.level) (annotations_in p)
