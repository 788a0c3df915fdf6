-- Each token is its text.
use Rattle.std.proofs.Common.{◌≡◌, ◌<◌, ◌≤◌, ◌+◌, ◌-◌, ◌==◌, ℕ, List, [], ◌∷◌, ◌++◌, length, take, drop, true, false, Bool, cond, Option, Some, None, refl, ap, sym, ◌∙◌, arith, subst, append_assoc, length-append}
use Rattle.std.proofs.Math.Seq.{drop-append_seam, take-append_seam}
use Rattle.std.specs.List.{list_all}
use Rattle.std.specs.Str.Parse.{signed_digits_value}
use Rattle.sf_base.specs.declared.place.Place.{Place}
use Rattle.sf_lex.specs.declared.token.Kind.{Kind}
use Rattle.sf_lex.specs.declared.token.Kind.TheVariants as k
use Rattle.sf_lex.specs.declared.token.Token.{Token}
use Rattle.sf_lex.specs.Lexeme.{is_letter, is_number, is_some_of, is_word_byte, kind_of, symbol_kind, word_kind}
use Rattle.sf_lex.specs.Piece.{Piece, blank, comment, token, text_of, spelled, fits, is_bad_number, IsPiece, ArePieces}
use Rattle.sf_lex.specs.Reading.{tokens_of, first_place, next_place, place_behind, value_of}
use Rattle.sf_lex.specs.Checked.Laws.{AreTheirTexts, EachTokenIsItsText, IsItsText, text_at}
use Rattle.sf_lex.proofs.Steps.{behind_append, text_some}
use Rattle.sf_lex.proofs.SymbolLexemes.{symbol_no_number}

-- no word is a number
word-no_number : (text : List ℕ) → word_kind text ≡ k.Number → ⊥
word-no_number text e = grind arith

-- of the four kinds of texts only digits are a number
number-chosen : (letter word underscore existential digits : Bool) (w : Kind) (s : Option Kind) → (w ≡ k.Number → ⊥) → (s ≡ Some k.Number → ⊥)
    → cond letter (cond word (Some w) None) (cond underscore (cond existential (Some k.Existential) None) (cond digits (Some k.Number) s)) ≡ Some k.Number → digits ≡ true
number-chosen true true underscore existential digits w s h g e = let same : w ≡ k.Number = cc in absurd (h same)
number-chosen true false underscore existential digits w s h g e = absurd cc
number-chosen false word true true digits w s h g e = absurd cc
number-chosen false word true false digits w s h g e = absurd cc
number-chosen false word false existential true w s h g e = refl
number-chosen false word false existential false w s h g e = absurd (g e)

-- a text of a number's kind is a number
pub number-digits : (text : List ℕ) → kind_of text ≡ Some k.Number → is_number text ≡ true
number-digits [] e = absurd cc
number-digits (b ∷ bs) e =
    number-chosen (is_letter b) (list_all is_word_byte bs) (b == 95) (is_some_of is_word_byte bs) (is_number (b ∷ bs)) (word_kind (b ∷ bs)) (symbol_kind (b ∷ bs))
    (word-no_number (b ∷ bs)) (symbol_no_number (b ∷ bs)) e

-- a number that isn't bad fits
number-fits : (kind : Kind) (text rest : List ℕ) → kind ≡ k.Number → is_bad_number kind text rest ≡ false → fits (signed_digits_value 10 text) ≡ true
number-fits kind text rest n e = grind arith

-- a token that spans a text after others, of that kind, is that text
text-is : (bytes before text rest : List ℕ) (t : Token) → bytes ≡ before ++ (text ++ rest) → t.start ≡ length before → t.end ≡ length before + length text → t.place ≡ place_behind first_place before → t.value ≡ value_of t.kind text → IsPiece (token t.kind text) rest
    → IsItsText bytes t
text-is bytes before text rest t e s n p v piece =
    let lexeme : drop t.start bytes ≡ text ++ rest = rw (e, s) (drop-append_seam before (text ++ rest)) in
    let ahead : take t.start bytes ≡ before = rw (e, s) (take-append_seam before (text ++ rest)) in
    let count : t.end - t.start ≡ length text = omega arith in
    let same : text_at bytes t ≡ text = rw (lexeme, count) (take-append_seam text rest) in
    let whole : length bytes ≡ length before + (length text + length rest) = rw e (simp length-append refl) in
    let some : 0 < length text = text_some (token t.kind text) rest piece in
    record {
      some = omega arith;
      within = omega arith;
      kind = rw same piece.0.is;
      short = rw same piece.1;
      number = λ i. rw same (record { digits = number-digits text (piece.0.is ∙ ap Some i); in_range = number-fits t.kind text rest i piece.2 });
      value = rw same v;
      place = rw ahead p;
    }

counted : (before text : List ℕ) (start : ℕ) → start ≡ length before → start + length text ≡ length (before ++ text)
counted before text start s = simp length-append (omega arith)

placed : (before text : List ℕ) (at : Place) → at ≡ place_behind first_place before → place_behind at text ≡ place_behind first_place (before ++ text)
placed before text at p = ap (λ q. place_behind q text) p ∙ sym (behind_append first_place before text)

-- the tokens of pieces after other bytes are their texts
texts-of : (ps : List Piece) (bytes before : List ℕ) (from start : ℕ) (at : Place) → bytes ≡ before ++ spelled ps [] → ArePieces ps [] → start ≡ length before → at ≡ place_behind first_place before → from ≤ start
    → AreTheirTexts bytes from (tokens_of ps start at)
texts-of [] bytes before from start at e each s p h = tt
texts-of (blank b ∷ ps) bytes before from start at e each s p h =
    texts-of ps bytes (before ++ b ∷ []) from (start + 1) (next_place at b)
    (e ∙ sym (append_assoc before (b ∷ []) (spelled ps []))) each.1 (counted before (b ∷ []) start s) (placed before (b ∷ []) at p) (omega arith)
texts-of (comment inner ∷ ps) bytes before from start at e each s p h =
    let text : List ℕ = text_of (comment inner) in
    texts-of ps bytes (before ++ text) from (start + length text) (place_behind at text)
    (e ∙ sym (append_assoc before text (spelled ps []))) each.1 (counted before text start s) (placed before text at p) (omega arith)
texts-of (token kind text ∷ ps) bytes before from start at e each s p h = (
  text-is bytes before text (spelled ps []) _ e s (ap (λ m. m + length text) s) p refl each.0,
  h,
  texts-of ps bytes (before ++ text) (start + length text) (start + length text) (place_behind at text)
      (e ∙ sym (append_assoc before text (spelled ps []))) each.1 (counted before text start s) (placed before text at p) (omega arith),
)

pub texts-each : EachTokenIsItsText
texts-each bytes ts r = subst (AreTheirTexts bytes 0) (sym r.are) (texts-of r.pieces bytes [] 0 0 first_place r.spells r.each refl refl (omega arith))
