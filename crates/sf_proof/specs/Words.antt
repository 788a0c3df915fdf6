-- The tag that the words of a line say.
-- Ordinary: a table of keywords, as of the mnemonics of an assembler.
use Rattle.std.specs.Prelude.{ℕ, ◌==◌, ◌&&◌, ◌^◌, nat_lt, if◌then◌else◌, Option, Some, None, List, [], ◌∷◌, codes}
use Rattle.std.specs.List.{position_or_len}
use Rattle.std.specs.Option.{option_and_then, option_map, option_or, option_zip}
use Rattle.std.specs.Str.{bytes_eq}
use Rattle.std.specs.Str.Parse.{digits_value}
use Rattle.sf_base.specs.declared.ids.ProcId.{ProcId}
use Rattle.sf_lex.specs.Lexeme.{is_digit, is_some_of}
use Rattle.sf_lex.specs.Whole.{is_name, number_of}
use Rattle.sf_core.specs.Program.Syntax.{Program}
use Rattle.sf_sym.specs.declared.tag.Tag.{Tag}
use Rattle.sf_sym.specs.declared.tag.Tag.TheVariants as t
use Rattle.sf_sym.specs.declared.term.Term.{Term}
use Rattle.sf_sym.specs.declared.term.Term.TheVariants.{Nil, Int, Sym}
use Rattle.sf_proof.specs.ProofText.{Text}

-- the number of 32 bits that a word of digits writes
abbrev pub natural_of : Text → Option ℕ
natural_of word = if is_some_of is_digit word && nat_lt (digits_value 10 word) (2 ^ 32)
    then Some (digits_value 10 word) else None

-- the symbol that is `s` and its number
abbrev pub symbol_of : Text → Option Term
symbol_of [] = None
symbol_of (b ∷ bs) = if b == 115 then option_map Sym (natural_of bs) else None

-- the term that a word writes
abbrev pub term_of : Text → Option Term
term_of word = if bytes_eq word (codes "nil") then Some Nil
    else option_or (symbol_of word) (option_map Int (number_of word))

-- the number of the first procedure of that name, and the first number of none where there is no
-- such procedure
abbrev pub procedure_named : Program → Text → ProcId
procedure_named p name = record { 0 = position_or_len (λ f. bytes_eq f.name name) p.procedures }

-- the tag that is one word
unfoldable pub tag_alone : Text → Option Tag
tag_alone word =
    if bytes_eq word (codes "absurd") then Some t.Absurd
    else if bytes_eq word (codes "assign") then Some t.Assign
    else if bytes_eq word (codes "new") then Some t.New
    else if bytes_eq word (codes "then") then Some t.Then
    else if bytes_eq word (codes "else") then Some t.Else
    else if bytes_eq word (codes "loop") then Some t.Loop
    else if bytes_eq word (codes "around") then Some t.Around
    else if bytes_eq word (codes "again") then Some t.Again
    else if bytes_eq word (codes "call") then Some t.Call
    else if bytes_eq word (codes "fork") then Some t.Fork
    else if bytes_eq word (codes "enter") then Some t.Enter
    else if bytes_eq word (codes "exit") then Some t.Exit
    else if bytes_eq word (codes "return") then Some t.Return
    else if bytes_eq word (codes "give") then Some t.Give
    else if bytes_eq word (codes "end") then Some t.End
    else if bytes_eq word (codes "add") then Some t.Add
    else if bytes_eq word (codes "bind") then Some t.Bind
    else if bytes_eq word (codes "same") then Some t.Same
    else if bytes_eq word (codes "apart") then Some t.Apart
    else if bytes_eq word (codes "empty") then Some t.Empty
    else None

-- the tag that is a word and the number of an atom
unfoldable pub tag_with_atom : Text → ℕ → Option Tag
tag_with_atom word atom =
    if bytes_eq word (codes "drop") then Some (t.Drop atom)
    else if bytes_eq word (codes "force") then Some (t.Force atom)
    else if bytes_eq word (codes "unroll") then Some (t.Unroll atom)
    else if bytes_eq word (codes "back") then Some (t.Back atom)
    else if bytes_eq word (codes "look") then Some (t.Look atom)
    else if bytes_eq word (codes "mutate") then Some (t.Mutate atom)
    else if bytes_eq word (codes "dispose") then Some (t.Dispose atom)
    else if bytes_eq word (codes "cell") then Some (t.Cell atom)
    else if bytes_eq word (codes "exact") then Some (t.Exact atom)
    else if bytes_eq word (codes "head") then Some (t.Head atom)
    else if bytes_eq word (codes "join") then Some (t.Join atom)
    else if bytes_eq word (codes "node") then Some (t.Node atom)
    else None

-- the tag that begins the procedure of a name, and None where the word is no name
abbrev pub tag_of_procedure : Program → Text → Option Tag
tag_of_procedure p name = if is_name name then Some (t.Procedure (procedure_named p name)) else None

-- the tag that is a word and one more
abbrev pub tag_with : Program → (word operand : Text) → Option Tag
tag_with p word operand =
    if bytes_eq word (codes "procedure") then tag_of_procedure p operand
    else option_and_then (tag_with_atom word) (natural_of operand)

-- the tag that splits by two terms
abbrev pub split_by : Term × Term → Tag
split_by terms = t.Split terms.0 terms.1

-- the tag that is a word and two more
abbrev pub tag_with_two : (word first second : Text) → Option Tag
tag_with_two word first second =
    if bytes_eq word (codes "split") then option_map split_by (option_zip (term_of first) (term_of second)) else None

-- the tag that words say
abbrev pub tag_of : Program → List Text → Option Tag
tag_of p [] = None
tag_of p (word ∷ []) = tag_alone word
tag_of p (word ∷ x ∷ []) = tag_with p word x
tag_of p (word ∷ x ∷ y ∷ []) = tag_with_two word x y
tag_of p (word ∷ x ∷ y ∷ z ∷ more) = None
