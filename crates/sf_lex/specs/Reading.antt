-- How a file reads: its tokens with their numbers, ends and places, or the first place where it is none.
-- Ordinary: the lexical rules of this language, as in Aho, Sethi, Ullman, "Compilers" (1986), chapter 3.
use Rattle.std.specs.Prelude.{◌≡◌, ℕ, ◌+◌, ◌==◌, ◌<◌, ◌≤◌, ◌++◌, true, false, if◌then◌else◌, None, List, [], ◌∷◌, length, pos, ℤ, slice_index}
use Rattle.std.specs.Str.Parse.{signed_digits_value}
use Rattle.sf_base.specs.declared.limits.TheConstants.{FILE_BYTES}
use Rattle.sf_base.specs.declared.place.Place.{Place}
use Rattle.sf_lex.specs.declared.fault.LexFault.{LexFault}
use Rattle.sf_lex.specs.declared.fault.LexFault.TheVariants.{BadByte, LongWord, OpenComment, BadNumber, LongFile, OutOfMemory}
use Rattle.sf_lex.specs.declared.token.Kind.{Kind}
use Rattle.sf_lex.specs.declared.token.Kind.TheVariants.{Number}
use Rattle.sf_lex.specs.declared.token.Token.{Token}
use Rattle.sf_lex.specs.Lexeme.{is_blank, kind_of}
use Rattle.sf_lex.specs.Piece.{Piece, blank, comment, token, text_of, spelled, has_close, is_long_word, is_bad_number, IsLexeme, ArePieces}

-- the place after one byte: a line feed ends a line
abbrev pub next_place : Place → ℕ → Place
next_place at byte = if byte == 10 then record { line = at.line + 1; column = 1 } else record { line = at.line; column = at.column + 1 }

-- the place after bytes
abbrev pub place_behind : Place → List ℕ → Place
place_behind at [] = at
place_behind at (b ∷ bs) = place_behind (next_place at b) bs

-- the place of a file's first byte
abbrev pub first_place : Place
first_place = record { line = 1; column = 1 }

-- the place after a file's last byte
abbrev pub end_place : List ℕ → Place
end_place bytes = place_behind first_place bytes

-- what a number writes, and 0 for other tokens
abbrev pub value_of : Kind → List ℕ → ℤ
value_of Number text = signed_digits_value 10 text
value_of _ text = pos 0

-- the tokens among pieces, where so many bytes come before the first one, at that place
abbrev pub tokens_of : List Piece → (start : ℕ) → Place → List Token
tokens_of [] start at = []
tokens_of (blank b ∷ ps) start at = tokens_of ps (start + 1) (next_place at b)
tokens_of (comment inner ∷ ps) start at = tokens_of ps (start + length (text_of (comment inner))) (place_behind at (text_of (comment inner)))
tokens_of (token kind text ∷ ps) start at =
    record { kind = kind; value = value_of kind text; start = start; end = start + length text; place = at } ∷ tokens_of ps (start + length text) (place_behind at text)

-- the bytes are pieces one after the other, and these are the tokens among them
pub record AreTokens (bytes : List ℕ) (tokens : List Token) : Type 0 where
  pub short : length bytes ≤ FILE_BYTES
  pub pieces : List Piece
  pub spells : bytes ≡ spelled pieces []
  pub each : ArePieces pieces []
  pub are : tokens ≡ tokens_of pieces 0 first_place

-- a byte that is no blank and begins no comment and no token
pub record IsBadByte (rest : List ℕ) : Type 0 where
  pub some : 0 < length rest
  pub no_blank : is_blank (slice_index rest 0) ≡ false
  pub no_comment : (inside : List ℕ) → rest ≡ 47 ∷ 42 ∷ inside → ⊥
  pub no_token : (text after : List ℕ) → rest ≡ text ++ after → kind_of text ≡ None

-- the longest token next is a name or existential that is too long
pub record IsLongWord (rest : List ℕ) : Type 0 where
  pub kind : Kind
  pub text : List ℕ
  pub after : List ℕ
  pub spells : rest ≡ text ++ after
  pub lexeme : IsLexeme kind text after
  pub long : is_long_word kind (length text) ≡ true

-- a comment begins, and nothing ends it
pub record IsOpenComment (rest : List ℕ) : Type 0 where
  pub inside : List ℕ
  pub spells : rest ≡ 47 ∷ 42 ∷ inside
  pub unclosed : has_close inside ≡ false

-- the longest token next is a number that is not in order
pub record IsBadNumber (rest : List ℕ) : Type 0 where
  pub kind : Kind
  pub text : List ℕ
  pub after : List ℕ
  pub spells : rest ≡ text ++ after
  pub lexeme : IsLexeme kind text after
  pub bad : is_bad_number kind text after ≡ true

-- what is at fault at that place, with the rest of the file after it
abbrev pub IsFaultAt : LexFault → List ℕ → Place → Type 0
IsFaultAt (BadByte place) rest at = (place ≡ at) × IsBadByte rest
IsFaultAt (LongWord place) rest at = (place ≡ at) × IsLongWord rest
IsFaultAt (OpenComment place) rest at = (place ≡ at) × IsOpenComment rest
IsFaultAt (BadNumber place) rest at = (place ≡ at) × IsBadNumber rest
IsFaultAt LongFile rest at = ⊥
IsFaultAt OutOfMemory rest at = ⊥

-- the bytes are pieces up to a place, and what is there is at fault
pub record StopsAt (bytes : List ℕ) (fault : LexFault) : Type 0 where
  pub short : length bytes ≤ FILE_BYTES
  pub pieces : List Piece
  pub rest : List ℕ
  pub spells : bytes ≡ spelled pieces rest
  pub each : ArePieces pieces rest
  pub stands : IsFaultAt fault rest (place_behind first_place (spelled pieces []))

-- the fault of a file: that it is too long comes before all others
abbrev pub IsFault : List ℕ → LexFault → Type 0
IsFault bytes LongFile = FILE_BYTES < length bytes
IsFault bytes OutOfMemory = ⊥
IsFault bytes fault = StopsAt bytes fault
