-- The lines of a text, the words of a line, and what is before and after a sign.
-- Ordinary: fields between blanks, as The Open Group's shell splits them ("Field Splitting", 2018).
use Rattle.std.specs.Prelude.{ℕ, ◌==◌, ◌||◌, Bool, true, false, nat_lt, ◌+◌, if◌then◌else◌, Option, Some, None, List, [], ◌∷◌, drop, length, map, take}
use Rattle.std.specs.Borrow.{Bor}
use Rattle.std.specs.List.{filter, position_or_len, slice_split}
use Rattle.std.specs.Str.Lines.{strip_carriage_return}

-- a text as its bytes
abbrev pub Text : Type 0
Text = List ℕ

-- the lines of a text: what is between its line feeds, without the carriage return at its end
abbrev pub lines : Text → List Text
lines text = map strip_carriage_return (slice_split (λ b. b == 10) text)

-- space or tab
abbrev pub is_space : ℕ → Bool
is_space b = (b == 32) || (b == 9)

-- a text of one byte or more
abbrev pub is_some_text : Text → Bool
is_some_text [] = false
is_some_text (b ∷ bs) = true

-- the words of a line: what is between its spaces and tabs, where that is some text
abbrev pub words : Text → List Text
words line = filter is_some_text (slice_split is_space line)

-- the one word, where there is one and no other
abbrev pub only : List Text → Option Text
only [] = None
only (word ∷ []) = Some word
only (word ∷ x ∷ more) = None

-- how many bytes are before the first such byte, which are all where there is none
abbrev pub bytes_before : ℕ → Text → ℕ
bytes_before sign text = position_or_len (λ b. b == sign) text

-- what is before the first such byte, and what after it; None where there is none
abbrev pub split_once : ℕ → Text → Option (Text × Text)
split_once sign text = if nat_lt (bytes_before sign text) (length text)
    then Some (take (bytes_before sign text) text, drop (bytes_before sign text + 1) text) else None

-- the lines of what is left of a text, if something is
abbrev pub lines_left : Option (Bor Text) → List Text
lines_left None = []
lines_left (Some rest) = lines rest.now

-- how many bytes are left, and one more for the line that is
abbrev pub bytes_left : Option (Bor Text) → ℕ
bytes_left None = 0
bytes_left (Some rest) = length rest.now + 1
