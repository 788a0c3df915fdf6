-- The first part of a list that is cut, and the first word and the first line of a text.
use Rattle.std.proofs.Common.{◌≡◌, ◌<◌, ◌≤◌, ◌+◌, ◌==◌, ℕ, suc, List, [], ◌∷◌, length, take, drop, true, false, Bool, not, refl, ap, sym, ◌∙◌, arith, subst, map, ◌⊎◌, inl, inr, zero, add-one}
use Rattle.std.proofs.lemmas.Bool.{cases_lt}
use Rattle.std.proofs.lemmas.List.{take_all, drop_all}
use Rattle.std.proofs.lemmas.List.Splits.{slice_split-cons_yes, slice_split-cons_no}
use Rattle.std.specs.List.{filter, prefix_len, slice_split, onto_first}
use Rattle.std.specs.Str.Lines.{strip_carriage_return}
use Rattle.sf_base.proofs.Prefixes.{prefix-more, prefix-none}
use Rattle.sf_lines.specs.Checked.Lemmas.Written.{words-space}
use Rattle.sf_lines.specs.Lines.{Text, is_some_text, is_space, lines, words}

-- how a list is cut at the elements that pass: the longest front without one, and then other parts
pub record Cut {X : Type 0} (p : X → Bool) (xs : List X) : Type 0 where
  pub others : List (List X)
  pub first : slice_split p xs ≡ take (prefix_len (λ x. not (p x)) xs) xs ∷ others
  pub at_end : prefix_len (λ x. not (p x)) xs ≡ length xs → others ≡ []
  pub before_end : prefix_len (λ x. not (p x)) xs < length xs → others
      ≡ slice_split p (drop (suc (prefix_len (λ x. not (p x)) xs)) xs)

cut_more : {X : Type 0} (p : X → Bool) (x : X) (xs : List X) → p x ≡ false → Cut p xs → Cut p (x ∷ xs)
cut_more p x xs e rest =
    let n : prefix_len (λ x. not (p x)) (x ∷ xs) ≡ suc (prefix_len (λ x. not (p x)) xs) =
    prefix-more (λ x. not (p x)) x xs (ap not e) in
    record {
      others = rest.others;
      first = slice_split-cons_no p x xs e ∙ ap (onto_first x) rest.first
          ∙ ap (λ k. take k (x ∷ xs) ∷ rest.others) (sym n);
      at_end = λ h. rest.at_end (omega arith);
      before_end = λ h. rest.before_end (omega arith) ∙ ap (λ k. slice_split p (drop k xs)) (sym n);
    }

cut_here : {X : Type 0} (p : X → Bool) (x : X) (xs : List X) → p x ≡ true → Cut p (x ∷ xs)
cut_here p x xs e =
    let n : prefix_len (λ x. not (p x)) (x ∷ xs) ≡ 0 = prefix-none (λ x. not (p x)) x xs (ap not e) in
    record {
      others = slice_split p xs;
      first = slice_split-cons_yes p x xs e ∙ ap (λ k. take k (x ∷ xs) ∷ slice_split p xs) (sym n);
      at_end = λ h. absurd (omega arith);
      before_end = λ h. ap (λ k. slice_split p (drop k xs)) (sym n);
    }

pub cut : {X : Type 0} (p : X → Bool) (xs : List X) → Cut p xs
cut p [] = record { others = []; first = refl; at_end = λ h. refl; before_end = λ h. absurd (omega arith) }
cut p (x ∷ xs) = go (p x) refl (cut p xs)
  where
    go : (t : Bool) → p x ≡ t → Cut p xs → Cut p (x ∷ xs)
    go true e rest = cut_here p x xs e
    go false e rest = cut_more p x xs e rest

-- spaces before a line make no words
pub words-spaces : (line : Text) → words line ≡ words (drop (prefix_len is_space line) line)
words-spaces [] = refl
words-spaces (b ∷ bs) = go (is_space b) refl (words-spaces bs)
  where
    go : (t : Bool) → is_space b ≡ t → words bs ≡ words (drop (prefix_len is_space bs) bs) → words (b ∷ bs)
        ≡ words (drop (prefix_len is_space (b ∷ bs)) (b ∷ bs))
    go true e more = words-space b bs e ∙ more ∙ ap (λ k. words (drop k (b ∷ bs))) (sym (prefix-more is_space b bs e))
    go false e more = ap (λ k. words (drop k (b ∷ bs))) (sym (prefix-none is_space b bs e))

abbrev is_inside : ℕ → Bool
is_inside b = not (is_space b)

-- what is after a word begins with a space
rest_begins : (bs : Text) → prefix_len is_inside bs < length bs → words (drop (prefix_len is_inside bs) bs)
    ≡ words (drop (suc (prefix_len is_inside bs)) bs)
rest_begins [] h = absurd (omega arith)
rest_begins (b ∷ bs) h = go (is_space b) refl (λ l. rest_begins bs l)
  where
    Begins : (n : ℕ) → Type 0
    Begins n = words (drop n (b ∷ bs)) ≡ words (drop (suc n) (b ∷ bs))

    go : (t : Bool) → is_space b ≡ t → (prefix_len is_inside bs < length bs
        → words (drop (prefix_len is_inside bs) bs) ≡ words (drop (suc (prefix_len is_inside bs)) bs))
        → Begins (prefix_len is_inside (b ∷ bs))
    go true e more = subst Begins (sym (prefix-none is_inside b bs (ap not e))) (words-space b bs e)
    go false e more =
        let n : prefix_len is_inside (b ∷ bs) ≡ suc (prefix_len is_inside bs) =
        prefix-more is_inside b bs (ap not e) in
        subst Begins (sym n) (more (omega arith))

-- a part that is some text is kept
kept-first : (n : ℕ) (bs : Text) (others : List Text) → 0 < n → n ≤ length bs
    → filter is_some_text (take n bs ∷ others) ≡ take n bs ∷ filter is_some_text others
kept-first zero bs others h l = absurd (omega arith)
kept-first (suc n) [] others h l = absurd (omega arith)
kept-first (suc n) (b ∷ bs) others h l = refl

-- what is after a word is the rest of the words
kept-others : (bs : Text) (c : Cut is_space bs) → prefix_len is_inside bs ≤ length bs → filter is_some_text c.others
    ≡ words (drop (prefix_len is_inside bs) bs)
kept-others bs c l = go (cases_lt (prefix_len is_inside bs) (length bs))
  where
    go : ((prefix_len is_inside bs < length bs) ⊎ (length bs ≤ prefix_len is_inside bs))
        → filter is_some_text c.others ≡ words (drop (prefix_len is_inside bs) bs)
    go (inl h) = ap (filter is_some_text) (c.before_end h) ∙ sym (rest_begins bs h)
    go (inr h) =
        let all : prefix_len is_inside bs ≡ length bs = omega arith in
        ap (filter is_some_text) (c.at_end all) ∙ sym (ap words (drop_all (prefix_len is_inside bs) bs (omega arith)))

-- a word and what is after it
pub words-word : (bs : Text) → 0 < prefix_len is_inside bs → prefix_len is_inside bs ≤ length bs → words bs
    ≡ take (prefix_len is_inside bs) bs ∷ words (drop (prefix_len is_inside bs) bs)
words-word bs h l =
    let c : Cut is_space bs = cut is_space bs in
    ap (filter is_some_text) c.first ∙ kept-first (prefix_len is_inside bs) bs c.others h l
    ∙ ap (λ rest. take (prefix_len is_inside bs) bs ∷ rest) (kept-others bs c l)

-- after the spaces comes nothing or a word
none_inside : (line : Text) → prefix_len is_inside (drop (prefix_len is_space line) line) ≡ 0
    → drop (prefix_len is_space line) line ≡ []
none_inside [] h = refl
none_inside (b ∷ bs) h = go (is_space b) refl (λ k. none_inside bs k)
  where
    go : (t : Bool) → is_space b ≡ t → (prefix_len is_inside (drop (prefix_len is_space bs) bs) ≡ 0
        → drop (prefix_len is_space bs) bs ≡ []) → drop (prefix_len is_space (b ∷ bs)) (b ∷ bs) ≡ []
    go true e more =
        let n : prefix_len is_space (b ∷ bs) ≡ suc (prefix_len is_space bs) = prefix-more is_space b bs e in
        ap (λ m. drop m (b ∷ bs)) n ∙ more (subst (λ m. prefix_len is_inside (drop m (b ∷ bs)) ≡ 0) n h)
    go false e more =
        let n : prefix_len is_space (b ∷ bs) ≡ 0 = prefix-none is_space b bs e in
        let m : prefix_len is_inside (b ∷ bs) ≡ suc (prefix_len is_inside bs) =
        prefix-more is_inside b bs (ap not e) in
        let z : prefix_len is_inside (b ∷ bs) ≡ 0 = subst (λ m. prefix_len is_inside (drop m (b ∷ bs)) ≡ 0) n h in
        absurd (omega arith)

-- a line without a word after its first spaces has none
pub no_word_at : (line rest : Text) (n m : ℕ) → n ≡ prefix_len is_space line → rest ≡ drop n line → m
    ≡ prefix_len is_inside rest → m ≡ 0 → words line ≡ []
no_word_at line rest n m e r f z =
    let after : rest ≡ drop (prefix_len is_space line) line = r ∙ ap (λ k. drop k line) e in
    let none : drop (prefix_len is_space line) line ≡ [] =
    none_inside line (subst (λ xs. prefix_len is_inside xs ≡ 0) after (sym f ∙ z)) in
    words-spaces line ∙ ap words none

-- else that is its first
pub word_at : (line rest after : Text) (n m : ℕ) → n ≡ prefix_len is_space line → rest ≡ drop n line → m
    ≡ prefix_len is_inside rest → m ≤ length rest → (m ≡ 0 → ⊥) → after ≡ drop m rest → words line
    ≡ take m rest ∷ words after
word_at line rest after n m e r f l z a =
    let spaces : words line ≡ words rest = words-spaces line ∙ ap words (ap (λ k. drop k line) (sym e) ∙ sym r) in
    let word : words rest ≡ take m rest ∷ words (drop m rest) =
    subst (λ k. words rest ≡ take k rest ∷ words (drop k rest)) (sym f)
    (words-word rest (omega arith) (omega arith)) in
    spaces ∙ word ∙ ap (λ xs. take m rest ∷ words xs) (sym a)

-- a text without a line feed is one line
pub last_line : (text : Text) (n : ℕ) → n ≡ prefix_len (λ b. not (b == 10)) text → n ≡ length text → lines text
    ≡ strip_carriage_return text ∷ []
last_line text n e h =
    let c : Cut (λ b. b == 10) text = cut (λ b. b == 10) text in
    let all : take (prefix_len (λ b. not (b == 10)) text) text ≡ text =
    take_all (prefix_len (λ b. not (b == 10)) text) text (omega arith) in
    ap (map strip_carriage_return) c.first
    ∙ ap (λ xs. strip_carriage_return xs ∷ map strip_carriage_return c.others) all
    ∙ ap (λ xs. strip_carriage_return text ∷ map strip_carriage_return xs) (c.at_end (sym e ∙ h))

-- else its first line is followed by the others
pub first_line : (text : Text) (n : ℕ) → n ≡ prefix_len (λ b. not (b == 10)) text → n < length text → lines text
    ≡ strip_carriage_return (take n text) ∷ lines (drop (n + 1) text)
first_line text n e h =
    let c : Cut (λ b. b == 10) text = cut (λ b. b == 10) text in
    let rest : c.others ≡ slice_split (λ b. b == 10) (drop (n + 1) text) =
    rw (e, add-one) (c.before_end (omega arith)) in
    ap (map strip_carriage_return) c.first
    ∙ ap (λ k. strip_carriage_return (take k text) ∷ map strip_carriage_return c.others) (sym e)
    ∙ ap (λ xs. strip_carriage_return (take n text) ∷ map strip_carriage_return xs) rest
