-- Laws of reading tokens, in words of their own.
-- Ordinary: the longest match makes the scanner a function, Aho, Sethi, Ullman, "Compilers" (1986), chapter 3.
use Rattle.std.specs.Prelude.{◌≡◌, ◌<◌, ◌≤◌, ◌-◌, ◌⊎◌, ℕ, true, false, Some, List, [], ◌∷◌, length, take, drop}
use Rattle.std.specs.Str.Parse.{signed_digits_value}
use Rattle.sf_lex.specs.declared.fault.LexFault.{LexFault}
use Rattle.sf_lex.specs.declared.token.Kind.TheVariants.{Number}
use Rattle.sf_lex.specs.declared.token.Token.{Token}
use Rattle.sf_lex.specs.Lexeme.{is_number, kind_of}
use Rattle.sf_lex.specs.Piece.{fits, is_long_word}
use Rattle.sf_lex.specs.Reading.{AreTokens, IsFault, first_place, place_behind, value_of}

-- the bytes read in exactly one way: as one list of tokens, or with one fault
pub record ReadsOnce (bytes : List ℕ) : Type 0 where
  pub some : ((ts : List Token) × AreTokens bytes ts) ⊎ ((e : LexFault) × IsFault bytes e)
  pub tokens : (ts us : List Token) → AreTokens bytes ts → AreTokens bytes us → ts ≡ us
  pub faults : (e f : LexFault) → IsFault bytes e → IsFault bytes f → e ≡ f
  pub apart : (ts : List Token) (e : LexFault) → AreTokens bytes ts → IsFault bytes e → ⊥

-- each byte string does
abbrev pub EachFileReadsOnce : Type 0
EachFileReadsOnce = (bytes : List ℕ) → ReadsOnce bytes

-- the bytes from a token's start to its end
abbrev pub text_at : List ℕ → Token → List ℕ
text_at bytes t = take (t.end - t.start) (drop t.start bytes)

-- digits, with a `-` before them or none, of a number that fits 64 bits
pub record IsNumber (text : List ℕ) : Type 0 where
  pub digits : is_number text ≡ true
  pub in_range : fits (signed_digits_value 10 text) ≡ true

-- a token is its text: bytes of the file, one or more, of its kind and not too long; its value is what they write, and its place is after all
-- before them
pub record IsItsText (bytes : List ℕ) (t : Token) : Type 0 where
  pub some : t.start < t.end
  pub within : t.end ≤ length bytes
  pub kind : kind_of (text_at bytes t) ≡ Some t.kind
  pub short : is_long_word t.kind (length (text_at bytes t)) ≡ false
  pub number : t.kind ≡ Number → IsNumber (text_at bytes t)
  pub value : t.value ≡ value_of t.kind (text_at bytes t)
  pub place : t.place ≡ place_behind first_place (take t.start bytes)

-- each token is its text, and begins where the one before it ends or after that
abbrev pub AreTheirTexts : List ℕ → (before : ℕ) → List Token → Type 0
AreTheirTexts bytes before [] = Unit {0}
AreTheirTexts bytes before (t ∷ ts) = IsItsText bytes t × (before ≤ t.start) × AreTheirTexts bytes t.end ts

-- the tokens of a file are their texts, in order
abbrev pub EachTokenIsItsText : Type 0
EachTokenIsItsText = (bytes : List ℕ) (ts : List Token) → AreTokens bytes ts → AreTheirTexts bytes 0 ts
