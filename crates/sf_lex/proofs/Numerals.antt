-- A sign and digits are a numeral.
use Rattle.std.proofs.Common.{◌≡◌, ◌<◌, ◌+◌, ◌==◌, ℕ, suc, List, [], ◌∷◌, length, take, true, false, Bool, cond, refl, ap, sym, ◌∙◌, arith, subst}
use Rattle.std.proofs.Math.Numerals.{one-add}
use Rattle.std.proofs.lemmas.Bool.{and_left, and_parts}
use Rattle.std.proofs.lemmas.Bool.Decides.{nat_tests}
use Rattle.std.specs.List.{prefix_len, slice_index}
use Rattle.std.specs.Str.Parse.{AllDigits, IsNumeral, without_leading_sign}
use Rattle.std.specs.Char.{digit_value}
use Rattle.sf_base.proofs.Bools.{or-not_left, or-not_right}
use Rattle.sf_lex.specs.Lexeme.{is_digit}
use Rattle.sf_lex.specs.Checked.Lexing.{begins_number, number_length}

digit_below_ten : (b : ℕ) → is_digit b ≡ true → digit_value b < 10
digit_below_ten b e = grind (arith, nat_tests)

run_digits : (bs : List ℕ) → AllDigits 10 (take (prefix_len is_digit bs) bs)
run_digits [] = tt
run_digits (b ∷ bs) = go (is_digit b) refl (run_digits bs)
  where
    go : (t : Bool) → is_digit b ≡ t → AllDigits 10 (take (prefix_len is_digit bs) bs) → AllDigits 10 (take (cond t (1 + prefix_len is_digit bs) 0) (b ∷ bs))
    go true e rest = rw (one-add (prefix_len is_digit bs)) (digit_below_ten b e, rest)
    go false e rest = tt

run_some : (b : ℕ) (bs : List ℕ) → is_digit b ≡ true → 0 < length (take (prefix_len is_digit (b ∷ bs)) (b ∷ bs))
run_some b bs e = rw (e, one-add (prefix_len is_digit bs)) (omega arith)

digit_at_end : is_digit 0 ≡ true → ⊥
digit_at_end e = cc

no_minus : (b : ℕ) → (b == 45) ≡ true → is_digit b ≡ false
no_minus b e = grind (arith, nat_tests)

no_plus : (b : ℕ) → is_digit b ≡ true → (b == 43) ≡ false
no_plus b e = grind (arith, nat_tests)

-- digits alone have no sign
no_sign : (b : ℕ) (xs : List ℕ) → (b == 45) ≡ false → is_digit b ≡ true → without_leading_sign (b ∷ xs) ≡ b ∷ xs
no_sign b xs h e = rw (h, no_plus b e) refl

-- after a minus they are alone
one_sign : (b : ℕ) (xs : List ℕ) → (b == 45) ≡ true → without_leading_sign (b ∷ xs) ≡ xs
one_sign b xs h = rw h refl

behind_minus : (bs : List ℕ) → is_digit (slice_index bs 0) ≡ true → IsNumeral 10 (take (prefix_len is_digit bs) bs)
behind_minus [] e = absurd (digit_at_end e)
behind_minus (d ∷ bs) e = (run_some d bs e, run_digits (d ∷ bs))

pub number_numeral : (bs : List ℕ) → begins_number bs ≡ true → IsNumeral 10 (without_leading_sign (take (number_length bs) bs))
number_numeral [] e = absurd cc
number_numeral (b ∷ bs) e = go (b == 45) refl
  where
    plain : (b == 45) ≡ false → is_digit b ≡ true → IsNumeral 10 (without_leading_sign (take (prefix_len is_digit (b ∷ bs)) (b ∷ bs)))
    plain h d =
        let n : prefix_len is_digit (b ∷ bs) ≡ suc (prefix_len is_digit bs) = ap (λ t. cond t (1 + prefix_len is_digit bs) 0) d ∙ one-add (prefix_len is_digit bs) in
        let whole : IsNumeral 10 (b ∷ take (prefix_len is_digit bs) bs) = (omega arith, (digit_below_ten b d, run_digits bs)) in
        rw n (subst (λ xs. IsNumeral 10 xs) (sym (no_sign b (take (prefix_len is_digit bs) bs) h d)) whole)

    go : (t : Bool) → (b == 45) ≡ t → IsNumeral 10 (without_leading_sign (take (cond t (1 + prefix_len is_digit bs) (prefix_len is_digit (b ∷ bs))) (b ∷ bs)))
    go true h =
        let d : is_digit (slice_index bs 0) ≡ true = (and_parts (b == 45) _ (or-not_left (is_digit b) _ (no_minus b h) e)).1 in
        rw (one-add (prefix_len is_digit bs)) (subst (λ xs. IsNumeral 10 xs) (sym (one_sign b (take (prefix_len is_digit bs) bs) h)) (behind_minus bs d))
    go false h = plain h (or-not_right (is_digit b) _ (and_left (b == 45) _ h) e)
