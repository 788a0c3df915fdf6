-- Refusals: the kinds of what is wrong with a file, and the line that says which, where, and by
-- which name.
-- This project's own kinds; the form of the line is LINE:COLUMN, as compilers print places.
use Rattle.std.specs.Prelude.{ℕ, [], ◌++◌, codes, decimal}
use Rattle.sf_base.specs.declared.place.Place.{Place}
use Rattle.sf_elab.specs.declared.fault.NameFault.{NameFault}
use Rattle.sf_elab.specs.declared.fault.NameFault.TheVariants as n
use Rattle.sf_lex.specs.declared.fault.LexFault.{LexFault}
use Rattle.sf_lex.specs.declared.fault.LexFault.TheVariants as l
use Rattle.sf_parse.specs.declared.fault.ParseFault.{ParseFault}
use Rattle.sf_parse.specs.declared.fault.ParseFault.TheVariants as g
use Rattle.sf_precise.specs.declared.fault.OrderFault.{OrderFault}
use Rattle.sf_precise.specs.declared.fault.OrderFault.TheVariants as o
use Rattle.sf_vars.specs.declared.fault.VarFault.{VarFault}
use Rattle.sf_vars.specs.declared.fault.VarFault.TheVariants as v
use Rattle.sf_lex.specs.Reading.{first_place}
use Rattle.sf_cli.specs.declared.refusal.Refusal.{Refusal}
use Rattle.sf_cli.specs.declared.refusal.Refusal.TheVariants.{At, Named, OutOfMemory}
use Rattle.sf_cli.specs.declared.refusal.RefusalKind.{RefusalKind}
use Rattle.sf_cli.specs.declared.refusal.RefusalKind.TheVariants as k
use Rattle.sf_words.specs.Words.{Text}

-- what is refused for a fault of tokens
abbrev pub of_tokens : LexFault → Refusal
of_tokens (l.BadByte p) = At k.BadByte p
of_tokens (l.LongWord p) = At k.LongWord p
of_tokens (l.OpenComment p) = At k.OpenComment p
of_tokens (l.BadNumber p) = At k.BadNumber p
of_tokens l.LongFile = At k.LongFile first_place
of_tokens l.OutOfMemory = OutOfMemory

-- for a fault of the grammar
abbrev pub of_grammar : ParseFault → Refusal
of_grammar (g.Unexpected p) = At k.Unexpected p
of_grammar (g.TooDeep p) = At k.TooDeep p
of_grammar g.OutOfMemory = OutOfMemory

-- for a fault of names
abbrev pub of_names : NameFault → Refusal
of_names (n.UnknownName p x) = Named k.UnknownName p x
of_names (n.Twice p x) = Named k.Twice p x
of_names (n.Arity p x) = Named k.Arity p x
of_names (n.OwnedTwice p x) = Named k.OwnedTwice p x
of_names (n.ForeignVariable p x) = Named k.ForeignVariable p x
of_names (n.MissingField p x) = Named k.MissingField p x
of_names (n.TooMany p) = At k.TooMany p
of_names (n.InitShape p x) = Named k.InitShape p x
of_names (n.InitCalled p x) = Named k.InitCalled p x
of_names n.OutOfMemory = OutOfMemory

-- for a breach of the conditions on variables
abbrev pub of_variables : VarFault → Refusal
of_variables (v.NotHeld p x) = Named k.NotHeld p x
of_variables (v.Reentered p x) = Named k.Reentered p x
of_variables (v.SameReference p x) = Named k.SameReference p x
of_variables (v.ReferenceIsFree p x) = Named k.ReferenceIsFree p x
of_variables (v.ParallelShares p x) = Named k.ParallelShares p x
of_variables v.OutOfMemory = OutOfMemory

-- for an assertion that isn't determined
abbrev pub of_order : OrderFault → Refusal
of_order (o.Undetermined p) = At k.Undetermined p
of_order o.OutOfMemory = OutOfMemory

-- the number and the word of a kind
abbrev pub number_and_word : RefusalKind → ℕ × Text
number_and_word k.BadByte = (1, codes "BadByte")
number_and_word k.LongWord = (2, codes "LongWord")
number_and_word k.OpenComment = (3, codes "OpenComment")
number_and_word k.BadNumber = (4, codes "BadNumber")
number_and_word k.LongFile = (5, codes "LongFile")
number_and_word k.Unexpected = (10, codes "Unexpected")
number_and_word k.TooDeep = (11, codes "TooDeep")
number_and_word k.UnknownName = (20, codes "UnknownName")
number_and_word k.Twice = (21, codes "Twice")
number_and_word k.Arity = (22, codes "Arity")
number_and_word k.OwnedTwice = (23, codes "OwnedTwice")
number_and_word k.ForeignVariable = (24, codes "ForeignVariable")
number_and_word k.MissingField = (25, codes "MissingField")
number_and_word k.TooMany = (26, codes "TooMany")
number_and_word k.InitShape = (28, codes "InitShape")
number_and_word k.InitCalled = (29, codes "InitCalled")
number_and_word k.NotHeld = (30, codes "NotHeld")
number_and_word k.Reentered = (31, codes "Reentered")
number_and_word k.SameReference = (32, codes "SameReference")
number_and_word k.ReferenceIsFree = (33, codes "ReferenceIsFree")
number_and_word k.ParallelShares = (34, codes "ParallelShares")
number_and_word k.Undetermined = (40, codes "Undetermined")

-- its number
abbrev pub number_of : RefusalKind → ℕ
number_of kind = (number_and_word kind).0

-- its word
abbrev pub word_of : RefusalKind → Text
word_of kind = (number_and_word kind).1

-- the line up to its kind
abbrev pub kind_text : RefusalKind → Text
kind_text kind = codes "file refused: " ++ decimal (number_of kind) ++ codes " " ++ word_of kind

-- a place
abbrev pub place_text : Place → Text
place_text p = codes " at " ++ decimal p.line ++ codes ":" ++ decimal p.column

-- the end of the line, with a name
abbrev pub name_text : Text → Text
name_text x = codes " " ++ x ++ codes "\n"

-- the line; nothing is said where memory ran out
abbrev pub refusal_text : Refusal → Text
refusal_text (At kind p) = kind_text kind ++ place_text p ++ codes "\n"
refusal_text (Named kind p x) = kind_text kind ++ place_text p ++ name_text x
refusal_text OutOfMemory = []
