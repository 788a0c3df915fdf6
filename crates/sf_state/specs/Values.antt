-- Which value a word writes.
-- Ordinary: constants of this language, and locations by their numbers.
use Rattle.std.specs.Prelude.{ℕ, ◌&&◌, ◌||◌, Bool, nat_lt, nat_le, if◌then◌else◌, Option, Some, None, [], ◌∷◌, codes, ◌==◌}
use Rattle.std.specs.Option.{option_map, option_or}
use Rattle.std.specs.Str.{bytes_eq}
use Rattle.std.specs.Str.Parse.{digits_value}
use Rattle.sf_base.specs.declared.limits.TheConstants.{LOCATIONS}
use Rattle.sf_base.specs.declared.value.Value.{Value}
use Rattle.sf_base.specs.declared.value.Value.TheVariants.{Nil as nil, Int as int, Loc as loc}
use Rattle.sf_lex.specs.Lexeme.{is_digit, is_some_of}
use Rattle.sf_lex.specs.Whole.{number_of}
use Rattle.sf_lines.specs.Lines.{Text}

-- the number is that of a location: from 1 on, and below the limit
abbrev pub is_location : ℕ → Bool
is_location n = nat_le 1 n && nat_lt n LOCATIONS

-- the location that digits write
abbrev pub numbered_by : Text → Option ℕ
numbered_by digits = if is_some_of is_digit digits && is_location (digits_value 10 digits)
    then Some (digits_value 10 digits) else None

-- the location that `@` and digits write
abbrev pub location_from : Text → Option ℕ
location_from [] = None
location_from (b ∷ bs) = if b == 64 then numbered_by bs else None

-- it is the word for nil, in one of its two spellings
abbrev pub is_nil : Text → Bool
is_nil word = bytes_eq word (codes "nil") || bytes_eq word (codes "NULL")

-- the value that a word writes: nil, a location, or a number
abbrev pub value_from : Text → Option Value
value_from word = if is_nil word then Some nil
    else option_or (option_map loc (location_from word)) (option_map int (number_of word))
