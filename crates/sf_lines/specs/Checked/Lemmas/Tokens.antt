-- Numbers and names are words as they are written, and numbers are read back.
-- Names: `decimal-LAW` of a number's digits, `signed-LAW` of a number with its sign, `name-LAW` of
-- a name.
use Rattle.std.specs.Prelude.{◌≡◌, ◌<◌, ◌^◌, ◌==◌, ◌&&◌, ℕ, suc, Bool, true, false, nat_lt, if◌then◌else◌, [], ◌∷◌, length, Some, None, ℤ, pos, negsuc}
use Rattle.std.specs.Fmt.{decimal, signed_decimal}
use Rattle.std.specs.List.{list_all}
use Rattle.std.specs.Str.{all_ascii_digits, bytes_eq}
use Rattle.std.specs.Str.Parse.{digits_value, signed_digits_value}
use Rattle.std.proofs.Common.{refl, ap, sym, ◌∙◌, arith}
use Rattle.std.proofs.lemmas.Bool.{and_parts, eqb-true}
use Rattle.std.proofs.lemmas.Bool.Decides.{nat_tests}
use Rattle.std.proofs.lemmas.Fmt.{digits_decimal, digits_value-decimal, decimal_nonempty}
use Rattle.std.proofs.lemmas.Str.Parse.{IsNumeralModel, numerals_by_value, tells_all_ascii_digits}
use Rattle.sf_lex.specs.Lexeme.{is_digit, is_letter, is_number, is_some_of, is_word_byte, word_kind}
use Rattle.sf_lex.specs.Piece.{fits}
use Rattle.sf_lex.specs.Whole.{is_name, is_name_kind, number_of}
use Rattle.sf_lines.specs.Lines.{Text, is_some_text}
use Rattle.sf_lines.specs.Checked.Lemmas.Written.{IsPlain, all-more, is_visible}

-- ---- numbers

digits_same : (ds : Text) → all_ascii_digits ds ≡ list_all is_digit ds
digits_same [] = refl
digits_same (d ∷ ds) = ap (λ t. is_digit d && t) (digits_same ds)

own : IsNumeralModel (λ ds. all_ascii_digits ds ≡ true) (digits_value 10)
own = numerals_by_value _ tells_all_ascii_digits

decimal-digits : (n : ℕ) → n < 2 ^ 64 → list_all is_digit (decimal n) ≡ true
decimal-digits n h = sym (digits_same (decimal n)) ∙ digits_decimal own n h

decimal-value : (n : ℕ) → n < 2 ^ 64 → digits_value 10 (decimal n) ≡ n
decimal-value n h = digits_value-decimal own n h

digit-visible : (b : ℕ) → is_digit b ≡ true → is_visible b ≡ true
digit-visible b e = grind (arith, nat_tests)

some-length : (w : Text) → 0 < length w → is_some_text w ≡ true
some-length [] h = absurd (omega arith)
some-length (b ∷ bs) h = refl

pub decimal-plain : (n : ℕ) → n < 2 ^ 64 → IsPlain (decimal n)
decimal-plain n h = record {
  some = some-length (decimal n) (decimal_nonempty n h);
  visible = all-more is_digit is_visible digit-visible (decimal n) (decimal-digits n h);
}

some_of : (w : Text) → is_some_text w ≡ true → list_all is_digit w ≡ true → is_some_of is_digit w ≡ true
some_of [] s h = absurd cc
some_of (b ∷ bs) s h = h

decimal-some : (n : ℕ) → n < 2 ^ 64 → is_some_of is_digit (decimal n) ≡ true
decimal-some n h = some_of (decimal n) (decimal-plain n h).some (decimal-digits n h)

-- a number is read back from its digits, by whatever test it passes
pub decimal-back : (test : ℕ → Bool) (n : ℕ) → n < 2 ^ 64 → test n ≡ true
    → (if is_some_of is_digit (decimal n) && test (digits_value 10 (decimal n)) then Some (digits_value 10 (decimal n))
    else None) ≡ Some n
decimal-back test n h passes = rw (decimal-some n h, decimal-value n h, passes) refl

digit-other : (b c : ℕ) → is_digit b ≡ true → is_digit c ≡ false → (b == c) ≡ false
digit-other b c d e = go (b == c) refl
  where
    go : (t : Bool) → (b == c) ≡ t → t ≡ false
    go false h = refl
    go true h = let same : b ≡ c = eqb-true b c h in absurd cc

-- the text begins with another byte than that
pub record BeginsOtherwise (c : ℕ) (text : Text) : Type 0 where
  pub first : ℕ
  pub rest : Text
  pub is : text ≡ first ∷ rest
  pub other : (first == c) ≡ false

-- so it isn't a text that begins with that
pub otherwise-apart : (c : ℕ) (text rest : Text) → BeginsOtherwise c text → bytes_eq text (c ∷ rest) ≡ false
otherwise-apart c text rest b = rw (b.is, b.other) refl

digits-other : (c : ℕ) (ds : Text) → is_digit c ≡ false → is_some_text ds ≡ true → list_all is_digit ds ≡ true
    → BeginsOtherwise c ds
digits-other c [] e s h = absurd cc
digits-other c (d ∷ ds) e s h = record {
  first = d;
  rest = ds;
  is = refl;
  other = digit-other d c (and_parts (is_digit d) (list_all is_digit ds) h).0 e;
}

number-plain : (ds : Text) → is_some_text ds ≡ true → list_all is_digit ds ≡ true → (is_number ds ≡ true)
    × (signed_digits_value 10 ds ≡ pos (digits_value 10 ds))
number-plain [] s h = absurd cc
number-plain (d ∷ ds) s h =
    let is : is_digit d ≡ true = (and_parts (is_digit d) (list_all is_digit ds) h).0 in
    let minus : (d == 45) ≡ false = digit-other d 45 is refl in
    let plus : (d == 43) ≡ false = digit-other d 43 is refl in
    (rw minus h, rw (minus, plus) refl)

number-pos : (n : ℕ) → n < 2 ^ 63 → number_of (decimal n) ≡ Some (pos n)
number-pos n h =
    let wide : n < 2 ^ 64 = omega arith in
    let both = number-plain (decimal n) (decimal-plain n wide).some (decimal-digits n wide) in
    let value : digits_value 10 (decimal n) ≡ n = decimal-value n wide in
    let small : nat_lt n (2 ^ 63) ≡ true = grind (arith, nat_tests) in
    rw (both.0, both.1, value, small) refl

number-negsuc : (n : ℕ) → n < 2 ^ 63 → number_of (45 ∷ decimal (suc n)) ≡ Some (negsuc n)
number-negsuc n h =
    let wide : suc n < 2 ^ 64 = omega arith in
    let digits : is_some_of is_digit (decimal (suc n)) ≡ true = decimal-some (suc n) wide in
    let value : digits_value 10 (decimal (suc n)) ≡ suc n = decimal-value (suc n) wide in
    let small : nat_lt n (2 ^ 63) ≡ true = grind (arith, nat_tests) in
    rw (digits, value, small) refl

pub signed-plain : (i : ℤ) → fits i ≡ true → IsPlain (signed_decimal i)
signed-plain (pos n) h = let small : n < 2 ^ 63 = grind (arith, nat_tests) in decimal-plain n (omega arith)
signed-plain (negsuc n) h =
    let small : n < 2 ^ 63 = grind (arith, nat_tests) in
    record { some = refl; visible = (decimal-plain (suc n) (omega arith)).visible }

-- it begins with no byte but a digit or `-` (45)
pub signed-other : (i : ℤ) (c : ℕ) → fits i ≡ true → is_digit c ≡ false → (45 == c) ≡ false
    → BeginsOtherwise c (signed_decimal i)
signed-other (pos n) c h e m =
    let small : n < 2 ^ 63 = grind (arith, nat_tests) in
    digits-other c (decimal n) e (decimal-plain n (omega arith)).some (decimal-digits n (omega arith))
signed-other (negsuc n) c h e m = record { first = 45; rest = decimal (suc n); is = refl; other = m }

-- it is read back
pub signed-back : (i : ℤ) → fits i ≡ true → number_of (signed_decimal i) ≡ Some i
signed-back (pos n) h = let small : n < 2 ^ 63 = grind (arith, nat_tests) in number-pos n small
signed-back (negsuc n) h = let small : n < 2 ^ 63 = grind (arith, nat_tests) in number-negsuc n small

-- ---- names

letter-word : (b : ℕ) → is_letter b ≡ true → is_word_byte b ≡ true
letter-word b e = grind (arith, nat_tests)

word-visible : (b : ℕ) → is_word_byte b ≡ true → is_visible b ≡ true
word-visible b e = grind (arith, nat_tests)

-- each byte is a letter, a digit or `_`
pub name-bytes : (name : Text) → is_name name ≡ true → list_all is_word_byte name ≡ true
name-bytes [] h = absurd cc
name-bytes (b ∷ bs) h =
    let short = and_parts (is_letter b && list_all is_word_byte bs && is_name_kind (word_kind (b ∷ bs))) _ h in
    let kind = and_parts (is_letter b && list_all is_word_byte bs) _ short.0 in
    let both = and_parts (is_letter b) (list_all is_word_byte bs) kind.0 in
    rw (letter-word b both.0) both.1

pub name-plain : (name : Text) → is_name name ≡ true → IsPlain name
name-plain [] h = absurd cc
name-plain (b ∷ bs) h = record {
  some = refl;
  visible = all-more is_word_byte is_visible word-visible (b ∷ bs) (name-bytes (b ∷ bs) h);
}
