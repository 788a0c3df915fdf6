-- What the scanner sees at the beginning of the bytes that are left.
-- Ordinary: a scanner's look at the bytes ahead, as in Aho, Sethi, Ullman, "Compilers" (1986), chapter 3.
use Rattle.std.specs.Prelude.{◌≡◌, ℕ, suc, ◌+◌, ◌==◌, ◌&&◌, ◌||◌, Bool, if◌then◌else◌, Option, Some, None, List, [], ◌∷◌, ◌++◌, length, drop, slice_index}
use Rattle.std.specs.List.{prefix_len}
use Rattle.std.specs.Option.{option_map, option_or}
use Rattle.sf_base.specs.declared.place.Place.{Place}
use Rattle.sf_lex.specs.declared.lexeme.Lexeme.{Lexeme}
use Rattle.sf_lex.specs.declared.lexeme.Lexeme.TheVariants as f
use Rattle.sf_lex.specs.declared.token.Kind.{Kind}
use Rattle.sf_lex.specs.declared.token.Token.{Token}
use Rattle.sf_lex.specs.Lexeme.{is_digit, is_word_byte, symbol_of_one, symbol_of_two, symbol_of_three}
use Rattle.sf_lex.specs.Piece.{Piece, blank, comment, token, text_of, IsPiece}
use Rattle.sf_lex.specs.Reading.{value_of}

-- what is to be seen of a piece: how long it is, and the kind of a token and what it writes
abbrev pub lexeme_of : Piece → Lexeme
lexeme_of (blank b) = f.Space 1
lexeme_of (comment inner) = f.Space (length (text_of (comment inner)))
lexeme_of (token kind text) = f.Token kind (length text) (value_of kind text)

-- the next piece looks so
pub record IsNext (lexeme : Lexeme) (bytes : List ℕ) : Type 0 where
  pub piece : Piece
  pub rest : List ℕ
  pub spells : bytes ≡ text_of piece ++ rest
  pub each : IsPiece piece rest
  pub is : lexeme ≡ lexeme_of piece

-- how many bytes the lexeme takes
abbrev pub bytes_of : Lexeme → ℕ
bytes_of (f.Space n) = n
bytes_of (f.Token kind n v) = n

-- the tokens with that of the lexeme
abbrev pub with_lexeme : List Token → Lexeme → (start : ℕ) → Place → List Token
with_lexeme found (f.Space n) start at = found
with_lexeme found (f.Token kind n v) start at = found ++ record { kind = kind; value = v; start = start; end = start + n; place = at } ∷ []

-- how many bytes it takes to the first `*/`, with it
abbrev pub close_length : List ℕ → Option ℕ
close_length [] = None
close_length (b ∷ bs) = if (b == 42) && (slice_index bs 0 == 47) then Some 2 else option_map suc (close_length bs)

-- how many bytes next may occur in a word, after its first one
abbrev pub word_length : List ℕ → ℕ
word_length bs = prefix_len is_word_byte bs

-- `/*`
abbrev pub begins_comment : List ℕ → Bool
begins_comment bs = (slice_index bs 0 == 47) && (slice_index bs 1 == 42)

-- a digit, or `-` directly before one
abbrev pub begins_number : List ℕ → Bool
begins_number bs = is_digit (slice_index bs 0) || ((slice_index bs 0 == 45) && is_digit (slice_index bs 1))

-- how long the number next is, with its sign
abbrev pub number_length : List ℕ → ℕ
number_length bs = if slice_index bs 0 == 45 then 1 + prefix_len is_digit (drop 1 bs) else prefix_len is_digit bs

-- the longest symbol next, and its length
abbrev pub symbol_lexeme : List ℕ → Option (Kind × ℕ)
symbol_lexeme bs =
    option_or (option_map (λ k. (k, 3)) (symbol_of_three (slice_index bs 0) (slice_index bs 1) (slice_index bs 2)))
    (option_or (option_map (λ k. (k, 2)) (symbol_of_two (slice_index bs 0) (slice_index bs 1)))
    (option_map (λ k. (k, 1)) (symbol_of_one (slice_index bs 0))))
