-- Runs of bytes that pass a test, and single tests on bytes.
use Rattle.std.proofs.Common.{◌≡◌, ◌<◌, ◌==◌, ℕ, List, [], ◌∷◌, length, true, false, Bool, refl, arith}
use Rattle.std.proofs.lemmas.Bool.Decides.{nat_tests}
use Rattle.std.specs.List.{list_all}
use Rattle.sf_lex.specs.Lexeme.{is_letter, is_digit, is_word_byte, is_some_of}

pub some_of_all : (p : ℕ → Bool) (bs : List ℕ) → 0 < length bs → list_all p bs ≡ true → is_some_of p bs ≡ true
some_of_all p [] h e = absurd (omega arith)
some_of_all p (b ∷ bs) h e = e

pub some_of_none : (p : ℕ → Bool) (bs : List ℕ) → list_all p bs ≡ false → is_some_of p bs ≡ false
some_of_none p [] e = refl
some_of_none p (b ∷ bs) e = e

pub letter_is_word : (b : ℕ) → is_letter b ≡ true → is_word_byte b ≡ true
letter_is_word b e = grind (arith, nat_tests)

pub digit_no_letter : (b : ℕ) → is_digit b ≡ true → is_letter b ≡ false
digit_no_letter b e = grind (arith, nat_tests)

pub digit_no_underscore : (b : ℕ) → is_digit b ≡ true → (b == 95) ≡ false
digit_no_underscore b e = grind (arith, nat_tests)

pub digit_no_minus : (b : ℕ) → is_digit b ≡ true → (b == 45) ≡ false
digit_no_minus b e = grind (arith, nat_tests)

pub digit_no_equals : (b : ℕ) → is_digit b ≡ true → (b == 61) ≡ false
digit_no_equals b e = grind (arith, nat_tests)

pub digit_no_bang : (b : ℕ) → is_digit b ≡ true → (b == 33) ≡ false
digit_no_bang b e = grind (arith, nat_tests)

pub digit_no_bar : (b : ℕ) → is_digit b ≡ true → (b == 124) ≡ false
digit_no_bar b e = grind (arith, nat_tests)
