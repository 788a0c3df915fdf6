-- What is written is read back: the words of a written line, and the lines of a written text.
-- Names: `words-LAW`, `lines-LAW`, `split-LAW` for where a text is cut; `plain-LAW` for what a
-- written word has.
use Rattle.std.specs.Prelude.{◌≡◌, ◌+◌, ◌++◌, ◌==◌, ℕ, zero, suc, Bool, true, false, cond, not, nat_lt, List, [], ◌∷◌, length, drop, map, Some}
use Rattle.std.specs.List.{filter, list_all, onto_first, slice_index, slice_split}
use Rattle.std.specs.Str.Lines.{strip_carriage_return}
use Rattle.std.proofs.Common.{refl, ap, ◌∙◌, arith}
use Rattle.std.proofs.Math.Seq.{take-append_seam}
use Rattle.std.proofs.lemmas.Bool.{and_parts, lt-ltb}
use Rattle.std.proofs.lemmas.Bool.Decides.{nat_tests}
use Rattle.std.proofs.lemmas.List.{length-append}
use Rattle.std.proofs.lemmas.List.Folds.{list_all-append}
use Rattle.std.proofs.lemmas.List.Splits.{slice_split-cons_no, slice_split-cons_yes}
use Rattle.sf_base.proofs.Prefixes.{prefix-more, prefix-none}
use Rattle.sf_lines.specs.Lines.{Text, bytes_before, is_some_text, is_space, lines, split_once, words}

-- a byte that is no blank and no control character
abbrev pub is_visible : ℕ → Bool
is_visible b = nat_lt 32 b

-- a byte that may stand inside a line
abbrev pub is_inline : ℕ → Bool
is_inline b = nat_lt 13 b

-- a word as it is written: one byte or more, and all of them visible
pub record IsPlain (w : Text) : Type 0 where
  pub some : is_some_text w ≡ true
  pub visible : list_all is_visible w ≡ true

no_space : (b : ℕ) → is_visible b ≡ true → is_space b ≡ false
no_space b e = grind (arith, nat_tests)

visible-inline : (b : ℕ) → is_visible b ≡ true → is_inline b ≡ true
visible-inline b e = grind (arith, nat_tests)

no_feed : (b : ℕ) → is_inline b ≡ true → (b == 10) ≡ false
no_feed b e = grind (arith, nat_tests)

no_return : (b : ℕ) → is_inline b ≡ true → (b == 13) ≡ false
no_return b e = grind (arith, nat_tests)

-- a list in which nothing passes, before one that does, is cut there
split-at : {X : Type 0} (p q : X → Bool) → ((x : X) → q x ≡ true → p x ≡ false)
    → (xs : List X) (y : X) (ys : List X) → list_all q xs ≡ true → p y ≡ true → slice_split p (xs ++ y ∷ ys)
    ≡ xs ∷ slice_split p ys
split-at p q off [] y ys h e = slice_split-cons_yes p y ys e
split-at p q off (x ∷ xs) y ys h e =
    let both = and_parts (q x) (list_all q xs) h in
    slice_split-cons_no p x (xs ++ y ∷ ys) (off x both.0) ∙ ap (onto_first x) (split-at p q off xs y ys both.1 e)

split-whole : {X : Type 0} (p q : X → Bool) → ((x : X) → q x ≡ true → p x ≡ false) → (xs : List X)
    → list_all q xs ≡ true → slice_split p xs ≡ xs ∷ []
split-whole p q off [] h = refl
split-whole p q off (x ∷ xs) h =
    let both = and_parts (q x) (list_all q xs) h in
    slice_split-cons_no p x xs (off x both.0) ∙ ap (onto_first x) (split-whole p q off xs both.1)

kept : (w : Text) (rest : List Text) → is_some_text w ≡ true → filter is_some_text (w ∷ rest)
    ≡ w ∷ filter is_some_text rest
kept w rest e = ap (λ t. cond t (w ∷ filter is_some_text rest) (filter is_some_text rest)) e

-- a space before a line makes no word
pub words-space : (b : ℕ) (bs : Text) → is_space b ≡ true → words (b ∷ bs) ≡ words bs
words-space b bs e = rw e refl

-- a word alone
pub words-plain : (w : Text) → IsPlain w → words w ≡ w ∷ []
words-plain w p = ap (filter is_some_text) (split-whole is_space is_visible no_space w p.visible) ∙ kept w [] p.some

-- a word before others
pub words-before : (w rest : Text) → IsPlain w → words (w ++ 32 ∷ rest) ≡ w ∷ words rest
words-before w rest p = ap (filter is_some_text) (split-at is_space is_visible no_space w 32 rest p.visible refl)
    ∙ kept w (slice_split is_space rest) p.some

inline_last : (line : Text) (i : ℕ) → list_all is_inline line ≡ true → (slice_index line i == 13) ≡ false
inline_last [] i h = refl
inline_last (b ∷ bs) zero h = no_return b (and_parts (is_inline b) (list_all is_inline bs) h).0
inline_last (b ∷ bs) (suc i) h = inline_last bs i (and_parts (is_inline b) (list_all is_inline bs) h).1

-- a written line has no carriage return to lose
strip-inline : (line : Text) → list_all is_inline line ≡ true → strip_carriage_return line ≡ line
strip-inline line h = rw (inline_last line _ h) refl

-- a written line before others
pub lines-before : (line rest : Text) → list_all is_inline line ≡ true → lines (line ++ 10 ∷ rest) ≡ line ∷ lines rest
lines-before line rest h =
    ap (map strip_carriage_return) (split-at (λ b. b == 10) is_inline no_feed line 10 rest h refl)
    ∙ ap (λ l. l ∷ lines rest) (strip-inline line h)

-- what is before and after a sign that isn't before it
pub split-sign : (sign : ℕ) (before after : Text) → list_all (λ b. not (b == sign)) before ≡ true
    → split_once sign (before ++ sign ∷ after) ≡ Some (before, after)
split-sign sign before after h =
    let n : bytes_before sign (before ++ sign ∷ after) ≡ length before = count before h in
    let size : length (before ++ sign ∷ after) ≡ length before + length (sign ∷ after) =
    length-append before (sign ∷ after) in
    let within : nat_lt (length before) (length (before ++ sign ∷ after)) ≡ true =
    lt-ltb (length before) (length (before ++ sign ∷ after)) (omega arith) in
    rw (n, within, take-append_seam before (sign ∷ after), rest before) refl
  where
    itself : (not (sign == sign)) ≡ false
    itself = grind (arith, nat_tests)

    count : (bs : Text) → list_all (λ b. not (b == sign)) bs ≡ true → bytes_before sign (bs ++ sign ∷ after) ≡ length bs
    count [] h = prefix-none (λ b. not (b == sign)) sign after itself
    count (b ∷ bs) h =
        let both = and_parts (not (b == sign)) (list_all (λ b. not (b == sign)) bs) h in
        prefix-more (λ b. not (b == sign)) b (bs ++ sign ∷ after) both.0 ∙ ap suc (count bs both.1)

    rest : (bs : Text) → drop (length bs + 1) (bs ++ sign ∷ after) ≡ after
    rest [] = refl
    rest (b ∷ bs) = ap (λ n. drop n (b ∷ (bs ++ sign ∷ after))) (next (length bs)) ∙ rest bs
      where
        next : (n : ℕ) → suc n + 1 ≡ suc (n + 1)
        next n = omega arith

-- a test that passes wherever another does
pub all-more : (p q : ℕ → Bool) → ((b : ℕ) → p b ≡ true → q b ≡ true) → (bs : Text) → list_all p bs ≡ true
    → list_all q bs ≡ true
all-more p q f [] h = refl
all-more p q f (b ∷ bs) h =
    let both = and_parts (p b) (list_all p bs) h in
    rw (f b both.0) (all-more p q f bs both.1)

pub all-append : (p : ℕ → Bool) (a b : Text) → list_all p a ≡ true → list_all p b ≡ true → list_all p (a ++ b) ≡ true
all-append p a b x y = list_all-append p a b ∙ rw x y

pub plain-inline : (w : Text) → IsPlain w → list_all is_inline w ≡ true
plain-inline w p = all-more is_visible is_inline visible-inline w p.visible

pub plain-append : (a b : Text) → IsPlain a → list_all is_visible b ≡ true → IsPlain (a ++ b)
plain-append [] b p h = let wrong = p.some in absurd cc
plain-append (x ∷ a) b p h = record { some = refl; visible = all-append is_visible (x ∷ a) b p.visible h }
