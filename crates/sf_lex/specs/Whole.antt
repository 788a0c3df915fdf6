-- Which whole texts are names, and which number a whole text writes.
-- Ordinary: the lexical rules of this language, for texts that are words already.
use Rattle.std.specs.Prelude.{ℕ, ◌&&◌, Bool, true, false, nat_le, if◌then◌else◌, Option, Some, None, List, [], ◌∷◌, length, ℤ}
use Rattle.std.specs.List.{list_all}
use Rattle.std.specs.Str.Parse.{signed_digits_value}
use Rattle.sf_base.specs.declared.limits.TheConstants.{NAME_BYTES}
use Rattle.sf_lex.specs.declared.token.Kind.{Kind}
use Rattle.sf_lex.specs.declared.token.Kind.TheVariants.{Name}
use Rattle.sf_lex.specs.Lexeme.{is_letter, is_number, is_word_byte, word_kind}
use Rattle.sf_lex.specs.Piece.{fits}

-- it is the kind of names, and not that of a reserved word
abbrev pub is_name_kind : Kind → Bool
is_name_kind Name = true
is_name_kind _ = false

-- a letter, then letters, digits and `_`, at most so many bytes, and no reserved word
abbrev pub is_name : List ℕ → Bool
is_name [] = false
is_name (b ∷ bs) = is_letter b && list_all is_word_byte bs && is_name_kind (word_kind (b ∷ bs)) && nat_le
    (length (b ∷ bs)) NAME_BYTES

-- what a number that fits 64 bits writes, and None for any other text
abbrev pub number_of : List ℕ → Option ℤ
number_of text = if is_number text && fits (signed_digits_value 10 text) then Some (signed_digits_value 10 text)
    else None
