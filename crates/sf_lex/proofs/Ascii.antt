-- Numbers are ASCII.
use Rattle.std.proofs.Common.{◌≡◌, ◌<◌, ◌+◌, ◌==◌, ℕ, List, [], ◌∷◌, take, true, false, Bool, cond, refl, arith}
use Rattle.std.proofs.Math.Numerals.{one-add}
use Rattle.std.proofs.lemmas.Bool.Decides.{nat_tests}
use Rattle.std.proofs.lemmas.Str.Ascii.{IsAscii-nil, IsAscii-cons}
use Rattle.std.specs.Str.{IsAscii}
use Rattle.std.specs.List.{prefix_len}
use Rattle.sf_lex.specs.Lexeme.{is_digit}
use Rattle.sf_lex.specs.Checked.Lexing.{number_length}

run_ascii : (p : ℕ → Bool) → ((b : ℕ) → p b ≡ true → b < 128) → (bs : List ℕ) → IsAscii (take (prefix_len p bs) bs)
run_ascii p small [] = IsAscii-nil
run_ascii p small (b ∷ bs) = go (p b) refl (run_ascii p small bs)
  where
    go : (t : Bool) → p b ≡ t → IsAscii (take (prefix_len p bs) bs) → IsAscii (take (cond t (1 + prefix_len p bs) 0) (b ∷ bs))
    go true e rest = rw (one-add (prefix_len p bs)) (IsAscii-cons b (take (prefix_len p bs) bs) (small b e) rest)
    go false e rest = IsAscii-nil

digit_small : (b : ℕ) → is_digit b ≡ true → b < 128
digit_small b e = grind (arith, nat_tests)

pub number_ascii : (bs : List ℕ) → IsAscii (take (number_length bs) bs)
number_ascii [] = IsAscii-nil
number_ascii (b ∷ bs) = go (b == 45) refl
  where
    go : (t : Bool) → (b == 45) ≡ t → IsAscii (take (cond t (1 + prefix_len is_digit bs) (prefix_len is_digit (b ∷ bs))) (b ∷ bs))
    go true e = rw (one-add (prefix_len is_digit bs)) (IsAscii-cons b (take (prefix_len is_digit bs) bs) (grind (arith, nat_tests)) (run_ascii is_digit digit_small bs))
    go false e = run_ascii is_digit digit_small (b ∷ bs)
