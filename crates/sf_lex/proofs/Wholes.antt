-- A whole text that is a number: its digits are ASCII, and a numeral after its sign.
use Rattle.std.proofs.Common.{◌≡◌, ◌<◌, ◌==◌, ℕ, List, [], ◌∷◌, true, false, Bool, cond, refl, arith}
use Rattle.std.proofs.lemmas.Bool.{and_parts}
use Rattle.std.proofs.lemmas.Bool.Decides.{nat_tests}
use Rattle.std.specs.List.{list_all}
use Rattle.std.specs.Str.Parse.{AllDigits, IsNumeral, without_leading_sign}
use Rattle.std.specs.Char.{digit_value}
use Rattle.sf_lex.specs.Lexeme.{is_digit, is_number, is_some_of}

digit_below_ten : (b : ℕ) → is_digit b ≡ true → digit_value b < 10
digit_below_ten b e = grind (arith, nat_tests)

-- digits that are all of a text
all_digits : (bs : List ℕ) → list_all is_digit bs ≡ true → AllDigits 10 bs
all_digits [] e = tt
all_digits (b ∷ bs) e =
    let both = and_parts (is_digit b) (list_all is_digit bs) e in
    (digit_below_ten b both.0, all_digits bs both.1)

numeral : (bs : List ℕ) → is_some_of is_digit bs ≡ true → IsNumeral 10 bs
numeral [] e = absurd cc
numeral (b ∷ bs) e = (omega arith, all_digits (b ∷ bs) e)

some_sign : (b : ℕ) (bs : List ℕ) → is_some_of is_digit (b ∷ bs) ≡ true → without_leading_sign (b ∷ bs) ≡ b ∷ bs
some_sign b bs e =
    let d : is_digit b ≡ true = (and_parts (is_digit b) (list_all is_digit bs) e).0 in
    let no_minus : (b == 45) ≡ false = grind (arith, nat_tests) in
    let no_plus : (b == 43) ≡ false = grind (arith, nat_tests) in
    rw (no_minus, no_plus) refl

pub number-numeral : (text : List ℕ) → is_number text ≡ true → IsNumeral 10 (without_leading_sign text)
number-numeral [] e = absurd cc
number-numeral (b ∷ bs) e = go (b == 45) refl e
  where
    go : (t : Bool) → (b == 45) ≡ t → cond t (is_some_of is_digit bs) (is_some_of is_digit (b ∷ bs)) ≡ true
        → IsNumeral 10 (without_leading_sign (b ∷ bs))
    go true m h = rw m (numeral bs h)
    go false m h = rw (some_sign b bs h) (numeral (b ∷ bs) h)
