-- What a file is made of: blanks, comments and tokens, each token the longest that fits.
-- Ordinary: the rule of the longest match, as in Aho, Sethi, Ullman, "Compilers" (1986), chapter 3.
use Rattle.std.specs.Prelude.{◌≡◌, ℕ, ◌==◌, ◌&&◌, ◌||◌, ◌^◌, Bool, true, false, nat_lt, if◌then◌else◌, ◌++◌, Some, None, List, [], ◌∷◌, length, pos, negsuc, ℤ, slice_index}
use Rattle.std.specs.Str.Parse.{signed_digits_value}
use Rattle.sf_base.specs.declared.limits.TheConstants.{NAME_BYTES}
use Rattle.sf_lex.specs.declared.token.Kind.{Kind}
use Rattle.sf_lex.specs.declared.token.Kind.TheVariants.{Name, Existential, Number}
use Rattle.sf_lex.specs.Lexeme.{is_blank, is_word_byte, kind_of}

-- a blank; a comment, by what comes between its `/*` and its `*/`; a token, by its text
pub data Piece : Type 0 where
  blank : ℕ → Piece
  comment : List ℕ → Piece
  token : Kind → List ℕ → Piece

-- the bytes of a piece; those of a comment begin with `/*` and end with `*/`
abbrev pub text_of : Piece → List ℕ
text_of (blank b) = b ∷ []
text_of (comment inner) = 47 ∷ 42 ∷ (inner ++ 42 ∷ 47 ∷ [])
text_of (token kind text) = text

-- the bytes of pieces one after the other, and then the rest
abbrev pub spelled : List Piece → List ℕ → List ℕ
spelled [] rest = rest
spelled (p ∷ ps) rest = text_of p ++ spelled ps rest

-- whether `*/` occurs in the bytes
abbrev pub has_close : List ℕ → Bool
has_close [] = false
has_close (b ∷ bs) = ((b == 42) && (slice_index bs 0 == 47)) || has_close bs

-- before the rest no longer text is a token
abbrev pub IsLongest : List ℕ → List ℕ → Type 0
IsLongest text rest = (b : ℕ) (more after : List ℕ) → rest ≡ b ∷ (more ++ after) → kind_of (text ++ b ∷ more) ≡ None

-- a name or an existential of so many bytes has more than are allowed
abbrev pub is_long_word : Kind → ℕ → Bool
is_long_word Name bytes = nat_lt NAME_BYTES bytes
is_long_word Existential bytes = nat_lt NAME_BYTES bytes
is_long_word _ bytes = false

-- the number fits 64 bits: from - 2 ^ 63 to 2 ^ 63 - 1
abbrev pub fits : ℤ → Bool
fits (pos n) = nat_lt n (2 ^ 63)
fits (negsuc n) = nat_lt n (2 ^ 63)

-- a number outside 64 bits, or one directly before a letter or `_`
abbrev pub is_bad_number : Kind → List ℕ → List ℕ → Bool
is_bad_number Number text rest = if fits (signed_digits_value 10 text) then is_word_byte (slice_index rest 0) else true
is_bad_number _ text rest = false

-- the longest token before the rest
pub record IsLexeme (kind : Kind) (text rest : List ℕ) : Type 0 where
  pub is : kind_of text ≡ Some kind
  pub longest : IsLongest text rest

-- a piece before the rest: a comment ends with the first `*/` after its `/*`
abbrev pub IsPiece : Piece → List ℕ → Type 0
IsPiece (blank b) rest = is_blank b ≡ true
IsPiece (comment inner) rest = has_close (inner ++ 42 ∷ []) ≡ false
IsPiece (token kind text) rest = IsLexeme kind text rest × (is_long_word kind (length text) ≡ false) × (is_bad_number kind text rest ≡ false)

-- each is a piece before what follows it
abbrev pub ArePieces : List Piece → List ℕ → Type 0
ArePieces [] rest = Unit {0}
ArePieces (p ∷ ps) rest = IsPiece p (spelled ps rest) × ArePieces ps rest
