-- Texts of 1 to 19 decimal digits are read as what they write.
use Rattle.std.proofs.Common.{◌≡◌, ◌≤◌, ◌&&◌, ℕ, true, arith, length, rules, Result, Ok}
use Rattle.std.specs.Prelude.{nat_le}
use Rattle.std.proofs.lemmas.Bool.Decides.{nat_tests}
use Rattle.std.specs.Char.{is_ascii_digit}
use Rattle.std.specs.List.{list_all}
use Rattle.std.specs.Str.Parse.{ParsesUnsigned, digits_value}
use Rattle.std.proofs.lemmas.Str.Parse.{IsNumeralModel, digits_value_short, numerals_by_value, parse_gives}
use Rattle.sf_base.proofs.Bools.{and-left, and-right}
use Rattle.sf_words.specs.Words.{Text, is_numeral}

pub digits_test : IsNumeralModel (λ ds. list_all is_ascii_digit ds ≡ true) (digits_value 10)
digits_test = numerals_by_value _ (search rules)

nat_le_true : (m n : ℕ) → nat_le m n ≡ true → m ≤ n
nat_le_true m n e = grind (arith, nat_tests)

pub numeral-parse : {E : Type 0} (text : Text) (r : Result ℕ E) → ParsesUnsigned 64 10 text r → is_numeral text ≡ true → r ≡ Ok (digits_value 10 text)
numeral-parse text r h e =
    let rest : (nat_le (length text) 19 && list_all is_ascii_digit text) ≡ true = and-right (nat_le 1 (length text)) (nat_le (length text) 19 && list_all is_ascii_digit text) e in
    let digits = and-right (nat_le (length text) 19) (list_all is_ascii_digit text) rest in
    let some : nat_le 1 (length text) ≡ true = and-left (nat_le 1 (length text)) (nat_le (length text) 19 && list_all is_ascii_digit text) e in
    let short : nat_le (length text) 19 ≡ true = and-left (nat_le (length text) 19) (list_all is_ascii_digit text) rest in
    let least : 1 ≤ length text = nat_le_true 1 (length text) some in
    let most : length text ≤ 19 = nat_le_true (length text) 19 short in
    parse_gives digits_test 64 text r h digits (omega arith) (omega (arith, digits_value_short digits_test text 19 digits most))
