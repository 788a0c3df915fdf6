-- Which words go to the reader of command lines at all.
-- It would read `-abc` as a bundle of flags of one letter, of which no command has any.
use Rattle.std.specs.Prelude.{Bool, false, not, ◌&&◌, ◌||◌, if◌then◌else◌, List, [], ◌∷◌, ◌==◌}
use Rattle.std.specs.Str.{bytes_eq}
use Rattle.sf_words.specs.Words.{Text, dashes}

-- the word begins with `-` and goes on with something else
abbrev pub is_bundle : Text → Bool
is_bundle [] = false
is_bundle (first ∷ []) = false
is_bundle (first ∷ second ∷ rest) = first == 45 && not (second == 45)

-- there is such a word before the end of the options
abbrev pub has_bundle : List Text → Bool
has_bundle [] = false
has_bundle (word ∷ words) =
    if bytes_eq word dashes then false else is_bundle word || has_bundle words
