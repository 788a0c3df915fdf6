-- Words, existentials and numbers next: the run that the scanner takes is the longest token.
use Rattle.std.proofs.Common.{◌≡◌, ◌<◌, ◌≤◌, ◌+◌, ◌==◌, ℕ, suc, List, [], ◌∷◌, ◌++◌, length, take, drop, true, false, Bool, cond, ◌&&◌, Option, Some, None, refl, ap, sym, ◌∙◌, arith, subst, take-append-drop, ℤ, pos}
use Rattle.std.proofs.Math.Nat.{add-zero}
use Rattle.std.proofs.Math.Numerals.{one-add}
use Rattle.std.proofs.lemmas.Bool.{and_parts, eqb-true}
use Rattle.std.proofs.lemmas.List.{length-take-le, get_or-drop}
use Rattle.std.specs.List.{prefix_len, list_all, slice_index}
use Rattle.std.specs.Str.Parse.{signed_digits_value}
use Rattle.sf_base.proofs.Bools.{or-not_left, or-not_right}
use Rattle.sf_base.proofs.Prefixes.{prefix-more, prefix-none, prefix-passes, prefix-longest}
use Rattle.sf_lex.specs.declared.lexeme.Lexeme.TheVariants as f
use Rattle.sf_lex.specs.declared.token.Kind.{Kind}
use Rattle.sf_lex.specs.declared.token.Kind.TheVariants as k
use Rattle.sf_lex.specs.Checked.Lexing.{IsNext, begins_number, number_length, word_length}
use Rattle.sf_lex.specs.Lexeme.{is_letter, is_digit, is_word_byte, is_some_of, word_kind, symbol_kind, kind_of}
use Rattle.sf_lex.specs.Piece.{token, IsLexeme, is_long_word, is_bad_number, fits}
use Rattle.sf_lex.specs.Reading.{value_of, IsBadByte, IsLongWord, IsBadNumber}
use Rattle.sf_lex.proofs.Bytes.{some_of_all, some_of_none, letter_is_word, digit_no_letter, digit_no_underscore, digit_no_minus, digit_no_equals, digit_no_bang, digit_no_bar}

kind_letter : (b : ℕ) (bs : List ℕ) → is_letter b ≡ true → list_all is_word_byte bs ≡ true → kind_of (b ∷ bs) ≡ Some (word_kind (b ∷ bs))
kind_letter b bs l a = rw (l, a) refl

kind_no_letter : (b : ℕ) (bs : List ℕ) → is_letter b ≡ true → list_all is_word_byte bs ≡ false → kind_of (b ∷ bs) ≡ None
kind_no_letter b bs l a = rw (l, a) refl

-- the run of word bytes after a letter is the longest word
pub word_lexeme : (bs : List ℕ) → 0 < length bs → is_letter (slice_index bs 0) ≡ true → IsLexeme (word_kind (take (word_length bs) bs)) (take (word_length bs) bs) (drop (word_length bs) bs)
word_lexeme [] h l = absurd (omega arith)
word_lexeme (b ∷ bs) h l =
    rw (prefix-more is_word_byte b bs (letter_is_word b l)) (record {
      is = kind_letter b (take (word_length bs) bs) l (prefix-passes is_word_byte bs);
      longest = λ c more after e. kind_no_letter b (take (word_length bs) bs ++ c ∷ more) l (prefix-longest is_word_byte bs c more after e);
    })

kind_underscore : (bs : List ℕ) → is_some_of is_word_byte bs ≡ true → kind_of (95 ∷ bs) ≡ Some k.Existential
kind_underscore bs e = rw e refl

kind_no_underscore : (bs : List ℕ) → is_some_of is_word_byte bs ≡ false → kind_of (95 ∷ bs) ≡ None
kind_no_underscore bs e = rw e refl

-- so is the run of word bytes that begins with `_`, where it is longer than that
pub underscore_lexeme : (bs : List ℕ) → 0 < length (take (word_length bs) bs) → IsLexeme k.Existential (95 ∷ take (word_length bs) bs) (drop (word_length bs) bs)
underscore_lexeme bs h = record {
  is = kind_underscore (take (word_length bs) bs) (some_of_all is_word_byte (take (word_length bs) bs) h (prefix-passes is_word_byte bs));
  longest = λ c more after e. kind_no_underscore (take (word_length bs) bs ++ c ∷ more) (some_of_none is_word_byte (take (word_length bs) bs ++ c ∷ more) (prefix-longest is_word_byte bs c more after e));
}

some_taken : (bs : List ℕ) → 0 < word_length bs → 0 < length (take (word_length bs) bs)
some_taken [] h = h
some_taken (b ∷ bs) h = go (is_word_byte b) refl
  where
    go : (t : Bool) → is_word_byte b ≡ t → 0 < length (take (word_length (b ∷ bs)) (b ∷ bs))
    go true e = rw (prefix-more is_word_byte b bs e) (omega arith)
    go false e =
        let none : word_length (b ∷ bs) ≡ 0 = prefix-none is_word_byte b bs e in
        absurd (omega arith)

pub existential_lexeme : (bs : List ℕ) → 0 < length bs → slice_index bs 0 ≡ 95 → 2 ≤ word_length bs → IsLexeme k.Existential (take (word_length bs) bs) (drop (word_length bs) bs)
existential_lexeme [] h u l = absurd (omega arith)
existential_lexeme (b ∷ bs) h u l =
    subst (λ a. 2 ≤ word_length (a ∷ bs) → IsLexeme k.Existential (take (word_length (a ∷ bs)) (a ∷ bs)) (drop (word_length (a ∷ bs)) (a ∷ bs))) (sym u) (at_underscore bs) l
  where
    at_underscore : (bs : List ℕ) → 2 ≤ word_length (95 ∷ bs) → IsLexeme k.Existential (take (word_length (95 ∷ bs)) (95 ∷ bs)) (drop (word_length (95 ∷ bs)) (95 ∷ bs))
    at_underscore bs l =
        let n : word_length (95 ∷ bs) ≡ suc (word_length bs) = prefix-more is_word_byte 95 bs refl in
        rw n (underscore_lexeme bs (some_taken bs (omega arith)))

no_text_at_underscore : (bs text after : List ℕ) → word_length (95 ∷ bs) < 2 → 95 ∷ bs ≡ text ++ after → kind_of text ≡ None
no_text_at_underscore bs [] after l e = refl
no_text_at_underscore bs (a ∷ []) after l e =
    let same : 95 ≡ a = cc in
    subst (λ x. kind_of (x ∷ []) ≡ None) same refl
no_text_at_underscore bs (a ∷ b ∷ text) after l e =
    let same : 95 ≡ a = cc in
    let rest : bs ≡ b ∷ (text ++ after) = cc in
    go (is_word_byte b) refl same rest
  where
    go : (t : Bool) → is_word_byte b ≡ t → 95 ≡ a → bs ≡ b ∷ (text ++ after) → kind_of (a ∷ b ∷ text) ≡ None
    go true w same rest =
        let n : word_length (95 ∷ bs) ≡ suc (word_length bs) = prefix-more is_word_byte 95 bs refl in
        let m : word_length bs ≡ suc (word_length (text ++ after)) = ap word_length rest ∙ prefix-more is_word_byte b (text ++ after) w in
        absurd (omega arith)
    go false w same rest = subst (λ x. kind_of (x ∷ b ∷ text) ≡ None) same (rw w refl)

-- a lone `_` begins no token
pub lone_underscore : (bs : List ℕ) → 0 < length bs → slice_index bs 0 ≡ 95 → word_length bs < 2 → IsBadByte bs
lone_underscore [] h u l = absurd (omega arith)
lone_underscore (b ∷ bs) h u l =
    subst (λ a. word_length (a ∷ bs) < 2 → IsBadByte (a ∷ bs)) (sym u) (λ s. record {
      some = omega arith;
      no_blank = refl;
      no_comment = λ inside e. let wrong : false ≡ true = ap (λ xs. slice_index xs 0 == 47) e in cc;
      no_token = λ text after e. no_text_at_underscore bs text after s e;
    }) l

kind_digits : (b : ℕ) (bs : List ℕ) → is_digit b ≡ true → list_all is_digit bs ≡ true → kind_of (b ∷ bs) ≡ Some k.Number
kind_digits b bs d a = rw (digit_no_letter b d, digit_no_underscore b d, digit_no_minus b d, d, a) refl

no_symbol : (b c : ℕ) (bs : List ℕ) → is_digit b ≡ true → symbol_kind (b ∷ c ∷ bs) ≡ None
no_symbol b c [] d = rw (digit_no_equals b d, digit_no_bang b d, digit_no_minus b d, digit_no_bar b d) refl
no_symbol b c (e ∷ []) d = rw (digit_no_bar b d) refl
no_symbol b c (e ∷ g ∷ bs) d = refl

kind_no_digits : (b c : ℕ) (bs : List ℕ) → is_digit b ≡ true → list_all is_digit (c ∷ bs) ≡ false → kind_of (b ∷ c ∷ bs) ≡ None
kind_no_digits b c bs d a = rw (digit_no_letter b d, digit_no_underscore b d, digit_no_minus b d, d, a) (no_symbol b c bs d)

kind_minus : (bs : List ℕ) → is_some_of is_digit bs ≡ true → kind_of (45 ∷ bs) ≡ Some k.Number
kind_minus bs e = rw e refl

kind_no_minus : (b c : ℕ) (bs : List ℕ) → list_all is_digit (b ∷ c ∷ bs) ≡ false → kind_of (45 ∷ b ∷ c ∷ bs) ≡ None
kind_no_minus b c [] e = rw e refl
kind_no_minus b c (d ∷ bs) e = rw e refl

minus_longer : (b : ℕ) (xs : List ℕ) (c : ℕ) (more : List ℕ) → is_digit b ≡ true → list_all is_digit (xs ++ c ∷ more) ≡ false → kind_of (45 ∷ b ∷ (xs ++ c ∷ more)) ≡ None
minus_longer b [] c more d h = kind_no_minus b c more (rw d h)
minus_longer b (x ∷ xs) c more d h = kind_no_minus b x (xs ++ c ∷ more) (rw d h)

digits_longer : (b : ℕ) (xs : List ℕ) (c : ℕ) (more : List ℕ) → is_digit b ≡ true → list_all is_digit (xs ++ c ∷ more) ≡ false → kind_of (b ∷ (xs ++ c ∷ more)) ≡ None
digits_longer b [] c more d h = kind_no_digits b c more d h
digits_longer b (x ∷ xs) c more d h = kind_no_digits b x (xs ++ c ∷ more) d h

minus_lexeme : (b : ℕ) (bs : List ℕ) → is_digit b ≡ true → IsLexeme k.Number (45 ∷ take (prefix_len is_digit (b ∷ bs)) (b ∷ bs)) (drop (prefix_len is_digit (b ∷ bs)) (b ∷ bs))
minus_lexeme b bs d =
    rw (prefix-more is_digit b bs d) (record {
      is = kind_minus (b ∷ take (prefix_len is_digit bs) bs) (rw d (prefix-passes is_digit bs));
      longest = λ c more after e. minus_longer b (take (prefix_len is_digit bs) bs) c more d (prefix-longest is_digit bs c more after e);
    })

digits_lexeme : (b : ℕ) (bs : List ℕ) → is_digit b ≡ true → IsLexeme k.Number (take (prefix_len is_digit (b ∷ bs)) (b ∷ bs)) (drop (prefix_len is_digit (b ∷ bs)) (b ∷ bs))
digits_lexeme b bs d =
    rw (prefix-more is_digit b bs d) (record {
      is = kind_digits b (take (prefix_len is_digit bs) bs) d (prefix-passes is_digit bs);
      longest = λ c more after e. digits_longer b (take (prefix_len is_digit bs) bs) c more d (prefix-longest is_digit bs c more after e);
    })

-- digits with their sign are the longest number
pub number_lexeme : (bs : List ℕ) → begins_number bs ≡ true → IsLexeme k.Number (take (number_length bs) bs) (drop (number_length bs) bs)
number_lexeme [] e = absurd cc
number_lexeme (b ∷ bs) e = go (b == 45) refl
  where
    no_digit : (b == 45) ≡ true → is_digit b ≡ false
    no_digit m = let same : 45 ≡ b = sym (eqb-true b 45 m) in subst (λ x. is_digit x ≡ false) same refl

    behind_minus : (bs : List ℕ) → is_digit (slice_index bs 0) ≡ true → IsLexeme k.Number (45 ∷ take (prefix_len is_digit bs) bs) (drop (prefix_len is_digit bs) bs)
    behind_minus [] d = absurd cc
    behind_minus (c ∷ bs) d = minus_lexeme c bs d

    go : (t : Bool) → (b == 45) ≡ t → IsLexeme k.Number (take (cond t (1 + prefix_len is_digit bs) (prefix_len is_digit (b ∷ bs))) (b ∷ bs)) (drop (cond t (1 + prefix_len is_digit bs) (prefix_len is_digit (b ∷ bs))) (b ∷ bs))
    go true m =
        let d : is_digit (slice_index bs 0) ≡ true = (and_parts (b == 45) _ (or-not_left (is_digit b) _ (no_digit m) e)).1 in
        rw (one-add (prefix_len is_digit bs), eqb-true b 45 m) (behind_minus bs d)
    go false m =
        let off : ((b == 45) && is_digit (slice_index bs 0)) ≡ false = rw m refl in
        digits_lexeme b bs (or-not_right (is_digit b) _ off e)

-- the longest token of so many bytes, neither too long nor a bad number, is what comes next, with what it writes
pub token_stands : (kind : Kind) (bs : List ℕ) (n : ℕ) (v : ℤ) → n ≤ length bs → IsLexeme kind (take n bs) (drop n bs) → is_long_word kind n ≡ false → is_bad_number kind (take n bs) (drop n bs) ≡ false → v ≡ value_of kind (take n bs) → IsNext (f.Token kind n v) bs
token_stands kind bs n v h lexeme long bad writes =
    let counts : length (take n bs) ≡ n = length-take-le n bs h in
    record {
      piece = token kind (take n bs);
      rest = drop n bs;
      spells = sym (take-append-drop n bs);
      each = (lexeme, rw counts long, bad);
      is = ap (λ m. f.Token kind m v) (sym counts) ∙ ap (f.Token kind (length (take n bs))) writes;
    }

pub long_word : (kind : Kind) (bs : List ℕ) (n : ℕ) → n ≤ length bs → IsLexeme kind (take n bs) (drop n bs) → is_long_word kind n ≡ true → IsLongWord bs
long_word kind bs n h lexeme long =
    let counts : length (take n bs) ≡ n = length-take-le n bs h in
    record { kind = kind; text = take n bs; after = drop n bs; spells = sym (take-append-drop n bs); lexeme = lexeme; long = rw counts long }

pub bad_number : (kind : Kind) (bs : List ℕ) (n : ℕ) → IsLexeme kind (take n bs) (drop n bs) → is_bad_number kind (take n bs) (drop n bs) ≡ true → IsBadNumber bs
bad_number kind bs n lexeme bad = record { kind = kind; text = take n bs; after = drop n bs; spells = sym (take-append-drop n bs); lexeme = lexeme; bad = bad }

pub word_lexeme_at : (bs : List ℕ) (n : ℕ) (kind : Kind) → 0 < length bs → is_letter (slice_index bs 0) ≡ true → n ≡ word_length bs → kind ≡ word_kind (take n bs) → IsLexeme kind (take n bs) (drop n bs)
word_lexeme_at bs n kind some letter e h =
    let lexeme : IsLexeme (word_kind (take n bs)) (take n bs) (drop n bs) = subst (λ m. IsLexeme (word_kind (take m bs)) (take m bs) (drop m bs)) (sym e) (word_lexeme bs some letter) in
    subst (λ x. IsLexeme x (take n bs) (drop n bs)) (sym h) lexeme

pub existential_lexeme_at : (bs : List ℕ) (n : ℕ) → 0 < length bs → slice_index bs 0 ≡ 95 → n ≡ word_length bs → 2 ≤ n → IsLexeme k.Existential (take n bs) (drop n bs)
existential_lexeme_at bs n some u e h =
    subst (λ m. 2 ≤ m → IsLexeme k.Existential (take m bs) (drop m bs)) (sym e) (existential_lexeme bs some u) h

pub number_lexeme_at : (bs : List ℕ) (n : ℕ) → begins_number bs ≡ true → n ≡ number_length bs → IsLexeme k.Number (take n bs) (drop n bs)
number_lexeme_at bs n h e = subst (λ m. IsLexeme k.Number (take m bs) (drop m bs)) (sym e) (number_lexeme bs h)

-- what is no number is no bad one
pub no_number_no_bad : (kind : Kind) (text rest : List ℕ) → (kind ≡ k.Number → ⊥) → is_bad_number kind text rest ≡ false
no_number_no_bad k.Number text rest h = absurd (h refl)
no_number_no_bad _ text rest h = refl

-- and writes none
pub no_number_no_value : (kind : Kind) (text : List ℕ) → (kind ≡ k.Number → ⊥) → pos 0 ≡ value_of kind text
no_number_no_value k.Number text h = absurd (h refl)
no_number_no_value _ text h = refl

-- the byte after so many is the first of those after them
pub bad_number_at : (bs : List ℕ) (n : ℕ) → is_bad_number k.Number (take n bs) (drop n bs) ≡ cond (fits (signed_digits_value 10 (take n bs))) (is_word_byte (slice_index bs n)) true
bad_number_at bs n = ap (λ b. cond (fits (signed_digits_value 10 (take n bs))) (is_word_byte b) true) (get_or-drop n bs 0 0 ∙ ap (slice_index bs) (add-zero n))

-- where the scanner gives no number there is a bad one, and else it gives what is written
pub none_is_bad : (fit more : Bool) (v : ℤ) → cond {A = Option ℤ} fit (cond {A = Option ℤ} more None (Some v)) None ≡ None → cond fit more true ≡ true
none_is_bad true true v e = refl
none_is_bad true false v e = absurd cc
none_is_bad false more v e = refl

pub some_is_good : (fit more : Bool) (v x : ℤ) → cond {A = Option ℤ} fit (cond {A = Option ℤ} more None (Some v)) None ≡ Some x → (cond fit more true ≡ false) × (x ≡ v)
some_is_good true true v x e = absurd cc
some_is_good true false v x e = (refl, cc)
some_is_good false more v x e = absurd cc
