-- Which byte strings are tokens, and of which kind.
-- Ordinary: the lexical rules of this language, as in Aho, Sethi, Ullman, "Compilers" (1986), chapter 3.
use Rattle.std.specs.Prelude.{ℕ, ◌==◌, ◌&&◌, ◌||◌, Bool, false, if◌then◌else◌, Option, Some, None, List, [], ◌∷◌, codes}
use Rattle.std.specs.Char.{is_ascii_alphabetic, is_ascii_alphanumeric, is_ascii_digit}
use Rattle.std.specs.List.{list_all}
use Rattle.std.specs.Str.{bytes_eq}
use Rattle.sf_lex.specs.declared.token.Kind.{Kind}
use Rattle.sf_lex.specs.declared.token.Kind.TheVariants as k

-- space, tab, carriage return, line feed
abbrev pub is_blank : ℕ → Bool
is_blank b = (b == 32) || (b == 9) || (b == 13) || (b == 10)

-- A to Z, a to z
abbrev pub is_letter : ℕ → Bool
is_letter = is_ascii_alphabetic

-- 0 to 9
abbrev pub is_digit : ℕ → Bool
is_digit = is_ascii_digit

-- a letter, a digit or `_`
abbrev pub is_word_byte : ℕ → Bool
is_word_byte b = is_ascii_alphanumeric b || (b == 95)

-- one byte or more, and each passes the test
abbrev pub is_some_of : (ℕ → Bool) → List ℕ → Bool
is_some_of test [] = false
is_some_of test (b ∷ bs) = test b && list_all test bs

-- digits, with a `-` before them or none
abbrev pub is_number : List ℕ → Bool
is_number [] = false
is_number (b ∷ bs) = if b == 45 then is_some_of is_digit bs else is_some_of is_digit (b ∷ bs)

-- a word is reserved, or it is a name
abbrev pub word_kind : List ℕ → Kind
word_kind text =
    if bytes_eq text (codes "NULL") then k.Null
    else if bytes_eq text (codes "dispose") then k.Dispose
    else if bytes_eq text (codes "else") then k.Else
    else if bytes_eq text (codes "emp") then k.Emp
    else if bytes_eq text (codes "if") then k.If
    else if bytes_eq text (codes "list") then k.List
    else if bytes_eq text (codes "local") then k.Local
    else if bytes_eq text (codes "ls") then k.Ls
    else if bytes_eq text (codes "lseg") then k.Lseg
    else if bytes_eq text (codes "new") then k.New
    else if bytes_eq text (codes "nil") then k.Nil
    else if bytes_eq text (codes "resource") then k.Resource
    else if bytes_eq text (codes "then") then k.Then
    else if bytes_eq text (codes "dll") then k.Dll
    else if bytes_eq text (codes "tree") then k.Tree
    else if bytes_eq text (codes "true") then k.True
    else if bytes_eq text (codes "when") then k.When
    else if bytes_eq text (codes "while") then k.While
    else if bytes_eq text (codes "with") then k.With
    else k.Name

-- the symbols of one byte: ( ) [ ] { } , ; : * =
abbrev pub symbol_of_one : ℕ → Option Kind
symbol_of_one b =
    if b == 40 then Some k.OpenRound
    else if b == 41 then Some k.CloseRound
    else if b == 91 then Some k.OpenSquare
    else if b == 93 then Some k.CloseSquare
    else if b == 123 then Some k.OpenBrace
    else if b == 125 then Some k.CloseBrace
    else if b == 44 then Some k.Comma
    else if b == 59 then Some k.Semicolon
    else if b == 58 then Some k.Colon
    else if b == 42 then Some k.Star
    else if b == 61 then Some k.Equals
    else None

-- the symbols of two bytes: == != -> ||
abbrev pub symbol_of_two : ℕ → ℕ → Option Kind
symbol_of_two b c =
    if (b == 61) && (c == 61) then Some k.EqualEqual
    else if (b == 33) && (c == 61) then Some k.NotEqual
    else if (b == 45) && (c == 62) then Some k.Arrow
    else if (b == 124) && (c == 124) then Some k.Bars
    else None

-- the symbol of three bytes: |->
abbrev pub symbol_of_three : ℕ → ℕ → ℕ → Option Kind
symbol_of_three b c d = if (b == 124) && (c == 45) && (d == 62) then Some k.PointsTo else None

-- the symbol that a text is
abbrev pub symbol_kind : List ℕ → Option Kind
symbol_kind [] = None
symbol_kind (b ∷ []) = symbol_of_one b
symbol_kind (b ∷ c ∷ []) = symbol_of_two b c
symbol_kind (b ∷ c ∷ d ∷ []) = symbol_of_three b c d
symbol_kind (b ∷ c ∷ d ∷ e ∷ bs) = None

-- the token that a text is, its length and its number not looked at: a letter begins a word, `_` an existential
abbrev pub kind_of : List ℕ → Option Kind
kind_of [] = None
kind_of (b ∷ bs) =
    if is_letter b then (if list_all is_word_byte bs then Some (word_kind (b ∷ bs)) else None)
    else if b == 95 then (if is_some_of is_word_byte bs then Some k.Existential else None)
    else if is_number (b ∷ bs) then Some k.Number
    else symbol_kind (b ∷ bs)
