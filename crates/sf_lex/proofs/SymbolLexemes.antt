-- Symbols next: the longest one that fits, or none.
use Rattle.std.proofs.Common.{◌≡◌, ◌<◌, ◌==◌, ℕ, List, [], ◌∷◌, ◌++◌, length, true, false, Bool, cond, ◌&&◌, Option, Some, None, refl, ap, sym, ◌∙◌, arith, subst, pos}
use Rattle.std.proofs.Math.Bool.{and-false}
use Rattle.std.proofs.lemmas.Bool.{or_parts}
use Rattle.std.specs.List.{slice_index}
use Rattle.std.specs.Option.{option_map, option_or}
use Rattle.sf_lex.specs.declared.lexeme.Lexeme.TheVariants as f
use Rattle.sf_lex.specs.declared.token.Kind.{Kind}
use Rattle.sf_lex.specs.declared.token.Kind.TheVariants as k
use Rattle.sf_lex.specs.Checked.Lexing.{IsNext, begins_comment, begins_number, symbol_lexeme}
use Rattle.sf_lex.specs.Lexeme.{is_blank, is_letter, is_digit, is_number, symbol_of_one, symbol_of_two, symbol_of_three, symbol_kind, kind_of}
use Rattle.sf_lex.specs.Piece.{blank, token, IsLexeme, is_long_word, is_bad_number}
use Rattle.sf_lex.specs.Reading.{value_of, IsBadByte}

-- the byte begins no word, no existential and no number
pub record Apart (b : ℕ) (bs : List ℕ) : Type 0 where
  pub letter : is_letter b ≡ false
  pub underscore : (b == 95) ≡ false
  pub number : begins_number (b ∷ bs) ≡ false

no_number : (b : ℕ) (text after : List ℕ) → begins_number (b ∷ (text ++ after)) ≡ false → is_number (b ∷ text) ≡ false
no_number b text after e = go (b == 45) text refl (or_parts (is_digit b) _ e).0 (or_parts (is_digit b) _ e).1
  where
    go : (t : Bool) (text : List ℕ) → (b == 45) ≡ t → is_digit b ≡ false → (t && is_digit (slice_index (text ++ after) 0)) ≡ false → is_number (b ∷ text) ≡ false
    go true [] m d h = rw m refl
    go true (c ∷ text) m d h = rw (m, h) refl
    go false text m d h = rw (m, d) refl

kind_symbol : (b : ℕ) (text after : List ℕ) → Apart b (text ++ after) → kind_of (b ∷ text) ≡ symbol_kind (b ∷ text)
kind_symbol b text after a = rw (a.letter, a.underscore, no_number b text after a.number) refl

-- a symbol, or none
abbrev is_mark : Option Kind → Bool
is_mark (Some k.Name) = false
is_mark (Some k.Existential) = false
is_mark (Some k.Number) = false
is_mark _ = true

record IsMark (o : Option Kind) : Type 0 where
  mark : is_mark o ≡ true

choice : (t : Bool) (x y : Option Kind) → IsMark x → IsMark y → IsMark (cond t x y)
choice true x y e h = e
choice false x y e h = h

a_mark : {kind : Kind} → is_mark (Some kind) ≡ true → IsMark (Some kind)
a_mark e = record { mark = e }

none_mark : IsMark None
none_mark = record { mark = refl }

mark_three : (b c d : ℕ) → IsMark (symbol_of_three b c d)
mark_three b c d = choice ((b == 124) && (c == 45) && (d == 62)) (Some k.PointsTo) None (a_mark refl) none_mark

mark_two : (b c : ℕ) → IsMark (symbol_of_two b c)
mark_two b c = choice ((b == 61) && (c == 61)) _ _ (a_mark refl) (choice ((b == 33) && (c == 61)) _ _ (a_mark refl) (choice ((b == 45) && (c == 62)) _ _ (a_mark refl) (choice ((b == 124) && (c == 124)) _ _ (a_mark refl) (none_mark))))

mark_one : (b : ℕ) → IsMark (symbol_of_one b)
mark_one b = choice (b == 40) _ _ (a_mark refl) (choice (b == 41) _ _ (a_mark refl) (choice (b == 91) _ _ (a_mark refl) (choice (b == 93) _ _ (a_mark refl) (choice (b == 123) _ _ (a_mark refl) (choice (b == 125) _ _ (a_mark refl) (choice (b == 44) _ _ (a_mark refl) (choice (b == 59) _ _ (a_mark refl) (choice (b == 58) _ _ (a_mark refl) (choice (b == 42) _ _ (a_mark refl) (choice (b == 61) _ _ (a_mark refl) (none_mark)))))))))))

mark_kind : (text : List ℕ) → IsMark (symbol_kind text)
mark_kind [] = none_mark
mark_kind (b ∷ []) = mark_one b
mark_kind (b ∷ c ∷ []) = mark_two b c
mark_kind (b ∷ c ∷ d ∷ []) = mark_three b c d
mark_kind (b ∷ c ∷ d ∷ e ∷ text) = none_mark

-- no symbol is a number
pub symbol_no_number : (text : List ℕ) → symbol_kind text ≡ Some k.Number → ⊥
symbol_no_number text e = let wrong : false ≡ true = (subst IsMark e (mark_kind text)).mark in cc

-- neither too long nor a number
in_order : (kind : Kind) (text after : List ℕ) → is_mark (Some kind) ≡ true → (is_long_word kind (length text) ≡ false) × (is_bad_number kind text after ≡ false)
in_order k.Name text after e = absurd cc
in_order k.Existential text after e = absurd cc
in_order k.Number text after e = absurd cc
in_order _ text after e = (refl, refl)

no_value : (kind : Kind) (text : List ℕ) → is_mark (Some kind) ≡ true → pos 0 ≡ value_of kind text
no_value k.Number text e = absurd cc
no_value _ text e = refl

stands : (kind : Kind) (text after : List ℕ) → is_mark (Some kind) ≡ true → IsLexeme kind text after → IsNext (f.Token kind (length text) (pos 0)) (text ++ after)
stands kind text after m lexeme = record { piece = token kind text; rest = after; spells = refl; each = (lexeme, (in_order kind text after m).0, (in_order kind text after m).1); is = ap (f.Token kind (length text)) (no_value kind text m) }

one_short : (b c : ℕ) → symbol_of_three b c 0 ≡ None
one_short b c = rw (and-false ((b == 124) && (c == 45))) refl

two_short : (b d : ℕ) → symbol_of_three b 0 d ≡ None
two_short b d = rw (and-false (b == 124)) refl

pair_short : (b : ℕ) → symbol_of_two b 0 ≡ None
pair_short b = rw (and-false (b == 61), and-false (b == 33), and-false (b == 45), and-false (b == 124)) refl

three_stands : (b c d : ℕ) (bs : List ℕ) (kind : Kind) → Apart b (c ∷ d ∷ bs) → symbol_of_three b c d ≡ Some kind → IsNext (f.Token kind 3 (pos 0)) (b ∷ c ∷ d ∷ bs)
three_stands b c d bs kind a e =
    stands kind (b ∷ c ∷ d ∷ []) bs (subst IsMark e (mark_three b c d)).mark (record {
      is = kind_symbol b (c ∷ d ∷ []) bs a ∙ e;
      longest = λ x more after h. kind_symbol b (c ∷ d ∷ x ∷ more) after (subst (λ xs. Apart b (c ∷ d ∷ xs)) h a) ∙ refl;
    })

two_stands : (b c : ℕ) (bs : List ℕ) (kind : Kind) → Apart b (c ∷ bs) → symbol_of_three b c (slice_index bs 0) ≡ None → symbol_of_two b c ≡ Some kind → IsNext (f.Token kind 2 (pos 0)) (b ∷ c ∷ bs)
two_stands b c bs kind a none e =
    stands kind (b ∷ c ∷ []) bs (subst IsMark e (mark_two b c)).mark (record {
      is = kind_symbol b (c ∷ []) bs a ∙ e;
      longest = λ x more after h. kind_symbol b (c ∷ x ∷ more) after (subst (λ xs. Apart b (c ∷ xs)) h a) ∙ longer x more after (subst (λ xs. symbol_of_three b c (slice_index xs 0) ≡ None) h none);
    })
  where
    longer : (x : ℕ) (more after : List ℕ) → symbol_of_three b c x ≡ None → symbol_kind (b ∷ c ∷ x ∷ more) ≡ None
    longer x [] after none = none
    longer x (y ∷ more) after none = refl

one_stands : (b : ℕ) (bs : List ℕ) (kind : Kind) → Apart b bs → symbol_of_three b (slice_index bs 0) (slice_index bs 1) ≡ None → symbol_of_two b (slice_index bs 0) ≡ None → symbol_of_one b ≡ Some kind → IsNext (f.Token kind 1 (pos 0)) (b ∷ bs)
one_stands b bs kind a no3 no2 e =
    stands kind (b ∷ []) bs (subst IsMark e (mark_one b)).mark (record {
      is = kind_symbol b [] bs a ∙ e;
      longest = λ x more after h.
          kind_symbol b (x ∷ more) after (subst (λ xs. Apart b xs) h a)
          ∙ longer x more after (subst (λ xs. symbol_of_three b (slice_index xs 0) (slice_index xs 1) ≡ None) h no3) (subst (λ xs. symbol_of_two b (slice_index xs 0) ≡ None) h no2);
    })
  where
    longer : (x : ℕ) (more after : List ℕ) → symbol_of_three b x (slice_index (more ++ after) 0) ≡ None → symbol_of_two b x ≡ None → symbol_kind (b ∷ x ∷ more) ≡ None
    longer x [] after no3 no2 = no2
    longer x (y ∷ []) after no3 no2 = no3
    longer x (y ∷ z ∷ more) after no3 no2 = refl

apart_of : (b : ℕ) (bs : List ℕ) → is_letter b ≡ false → (b == 95) ≡ false → begins_number (b ∷ bs) ≡ false → Apart b bs
apart_of b bs l u n = record { letter = l; underscore = u; number = n }

abbrev first_of_three : Option Kind → Option Kind → Option Kind → Option (Kind × ℕ)
first_of_three o3 o2 o1 = option_or {T = Kind × ℕ} (option_map (λ x. (x, 3)) o3) (option_or {T = Kind × ℕ} (option_map (λ x. (x, 2)) o2) (option_map (λ x. (x, 1)) o1))

abbrev kind_in : Option (Kind × ℕ) → Option Kind
kind_in None = None
kind_in (Some p) = Some p.0

abbrev length_in : Option (Kind × ℕ) → ℕ
length_in None = 0
length_in (Some p) = p.1

choose : (o3 o2 o1 : Option Kind) (kind : Kind) (n : ℕ) → first_of_three o3 o2 o1 ≡ Some (kind, n)
    → (P : Type 0) → (o3 ≡ Some kind → n ≡ 3 → P) → (o3 ≡ None → o2 ≡ Some kind → n ≡ 2 → P) → (o3 ≡ None → o2 ≡ None → o1 ≡ Some kind → n ≡ 1 → P) → P
choose (Some x) o2 o1 kind n e P three two one = let a : Some x ≡ Some kind = ap kind_in e in let b : n ≡ 3 = sym (ap length_in e) in three a b
choose None (Some x) o1 kind n e P three two one = let a : Some x ≡ Some kind = ap kind_in e in let b : n ≡ 2 = sym (ap length_in e) in two refl a b
choose None None (Some x) kind n e P three two one = let a : Some x ≡ Some kind = ap kind_in e in let b : n ≡ 1 = sym (ap length_in e) in one refl refl a b
choose None None None kind n e P three two one = absurd cc

-- the symbol that the scanner sees is the longest token
pub symbol_some : (bs : List ℕ) (kind : Kind) (n : ℕ) → is_letter (slice_index bs 0) ≡ false → (slice_index bs 0 == 95) ≡ false → begins_number bs ≡ false → symbol_lexeme bs ≡ Some (kind, n) → IsNext (f.Token kind n (pos 0)) bs
symbol_some [] kind n l u d e = absurd cc
symbol_some (b ∷ []) kind n l u d e =
    choose (symbol_of_three b 0 0) (symbol_of_two b 0) (symbol_of_one b) kind n e (IsNext (f.Token kind n (pos 0)) (b ∷ []))
    (λ h m. let no : symbol_of_three b 0 0 ≡ None = two_short b 0 in absurd cc)
    (λ _ h m. let no : symbol_of_two b 0 ≡ None = pair_short b in absurd cc)
    (λ n3 n2 h m. subst (λ i. IsNext (f.Token kind i (pos 0)) (b ∷ [])) (sym m) (one_stands b [] kind (apart_of b [] l u d) n3 n2 h))
symbol_some (b ∷ c ∷ []) kind n l u d e =
    choose (symbol_of_three b c 0) (symbol_of_two b c) (symbol_of_one b) kind n e (IsNext (f.Token kind n (pos 0)) (b ∷ c ∷ []))
    (λ h m. let no : symbol_of_three b c 0 ≡ None = one_short b c in absurd cc)
    (λ n3 h m. subst (λ i. IsNext (f.Token kind i (pos 0)) (b ∷ c ∷ [])) (sym m) (two_stands b c [] kind (apart_of b (c ∷ []) l u d) n3 h))
    (λ n3 n2 h m. subst (λ i. IsNext (f.Token kind i (pos 0)) (b ∷ c ∷ [])) (sym m) (one_stands b (c ∷ []) kind (apart_of b (c ∷ []) l u d) n3 n2 h))
symbol_some (b ∷ c ∷ x ∷ bs) kind n l u d e =
    choose (symbol_of_three b c x) (symbol_of_two b c) (symbol_of_one b) kind n e (IsNext (f.Token kind n (pos 0)) (b ∷ c ∷ x ∷ bs))
    (λ h m. subst (λ i. IsNext (f.Token kind i (pos 0)) (b ∷ c ∷ x ∷ bs)) (sym m) (three_stands b c x bs kind (apart_of b (c ∷ x ∷ bs) l u d) h))
    (λ n3 h m. subst (λ i. IsNext (f.Token kind i (pos 0)) (b ∷ c ∷ x ∷ bs)) (sym m) (two_stands b c (x ∷ bs) kind (apart_of b (c ∷ x ∷ bs) l u d) n3 h))
    (λ n3 n2 h m. subst (λ i. IsNext (f.Token kind i (pos 0)) (b ∷ c ∷ x ∷ bs)) (sym m) (one_stands b (c ∷ x ∷ bs) kind (apart_of b (c ∷ x ∷ bs) l u d) n3 n2 h))

record NoSymbol (b c d : ℕ) : Type 0 where
  three : symbol_of_three b c d ≡ None
  two : symbol_of_two b c ≡ None
  one : symbol_of_one b ≡ None

no_symbols : (b c d : ℕ) (o3 o2 o1 : Option Kind) → symbol_of_three b c d ≡ o3 → symbol_of_two b c ≡ o2 → symbol_of_one b ≡ o1
    → first_of_three o3 o2 o1 ≡ None → NoSymbol b c d
no_symbols b c d (Some x) o2 o1 e3 e2 e1 e = absurd cc
no_symbols b c d None (Some x) o1 e3 e2 e1 e = absurd cc
no_symbols b c d None None (Some x) e3 e2 e1 e = absurd cc
no_symbols b c d None None None e3 e2 e1 e = record { three = e3; two = e2; one = e1 }

no_text : (b : ℕ) (text after : List ℕ) → NoSymbol b (slice_index (text ++ after) 0) (slice_index (text ++ after) 1) → symbol_kind (b ∷ text) ≡ None
no_text b [] after none = none.one
no_text b (c ∷ []) after none = none.two
no_text b (c ∷ d ∷ []) after none = none.three
no_text b (c ∷ d ∷ x ∷ text) after none = refl

no_comment : (bs inside : List ℕ) → begins_comment bs ≡ false → bs ≡ 47 ∷ 42 ∷ inside → ⊥
no_comment bs inside e h = let wrong : true ≡ false = subst (λ xs. begins_comment xs ≡ false) h e in cc

none_of : (b : ℕ) (bs text after : List ℕ) → Apart b bs → NoSymbol b (slice_index bs 0) (slice_index bs 1) → b ∷ bs ≡ text ++ after → kind_of text ≡ None
none_of b bs [] after a none e = refl
none_of b bs (x ∷ text) after a none e =
    let same : b ≡ x = cc in
    let rest : bs ≡ text ++ after = cc in
    subst (λ y. kind_of (y ∷ text) ≡ None) same
    (kind_symbol b text after (subst (λ xs. Apart b xs) rest a)
    ∙ no_text b text after (subst (λ xs. NoSymbol b (slice_index xs 0) (slice_index xs 1)) rest none))

-- where it sees none, the byte begins none token
pub symbol_none : (bs : List ℕ) → 0 < length bs → is_blank (slice_index bs 0) ≡ false → begins_comment bs ≡ false → is_letter (slice_index bs 0) ≡ false → (slice_index bs 0 == 95) ≡ false → begins_number bs ≡ false → symbol_lexeme bs ≡ None → IsBadByte bs
symbol_none [] some no_space no_open l u d e = absurd (omega arith)
symbol_none (b ∷ bs) some no_space no_open l u d e =
    let none : NoSymbol b (slice_index bs 0) (slice_index bs 1) = no_symbols b (slice_index bs 0) (slice_index bs 1) _ _ _ refl refl refl e in
    record {
      some = some;
      no_blank = no_space;
      no_comment = λ inside h. no_comment (b ∷ bs) inside no_open h;
      no_token = λ text after h. none_of b bs text after (apart_of b bs l u d) none h;
    }

pub blank_stands : (bs : List ℕ) → 0 < length bs → is_blank (slice_index bs 0) ≡ true → IsNext (f.Space 1) bs
blank_stands [] some e = absurd (omega arith)
blank_stands (b ∷ bs) some e = record { piece = blank b; rest = bs; spells = refl; each = e; is = refl }
