-- Each byte string reads: as tokens, or with a fault.
use Rattle.std.proofs.Common.{◌≡◌, ◌<◌, ◌≤◌, ◌+◌, ◌-◌, ◌==◌, ◌⊎◌, inl, inr, ℕ, zero, suc, List, [], ◌++◌, length, drop, true, false, Bool, nat_lt, Option, Some, None, refl, sym, arith, length-drop, take-append-drop}
use Rattle.std.proofs.lemmas.Bool.{ltb-true, ltb-false, eqb-true}
use Rattle.std.specs.List.{slice_index}
use Rattle.sf_base.specs.declared.limits.TheConstants.{FILE_BYTES}
use Rattle.sf_base.specs.declared.place.Place.{Place}
use Rattle.sf_lex.specs.declared.fault.LexFault.{LexFault}
use Rattle.sf_lex.specs.declared.fault.LexFault.TheVariants.{BadByte, LongWord, OpenComment, BadNumber, LongFile}
use Rattle.sf_lex.specs.declared.lexeme.Lexeme.{Lexeme}
use Rattle.sf_lex.specs.declared.token.Kind.{Kind}
use Rattle.sf_lex.specs.declared.token.Token.{Token}
use Rattle.sf_lex.specs.Checked.Lexing.{IsNext, begins_comment, begins_number, bytes_of, close_length, lexeme_of, number_length, symbol_lexeme, word_length}
use Rattle.sf_lex.specs.Lexeme.{is_blank, is_letter}
use Rattle.sf_lex.specs.Piece.{IsLexeme, is_bad_number, is_long_word, token}
use Rattle.sf_lex.specs.Reading.{AreTokens, IsFault, IsFaultAt, first_place}
use Rattle.sf_lex.proofs.CommentLexemes.{comment_open, comment_stands}
use Rattle.sf_lex.proofs.Steps.{ReadSo, finish, lexeme_some, nothing_read, step, stop}
use Rattle.sf_lex.proofs.SymbolLexemes.{blank_stands, symbol_none, symbol_some}
use Rattle.sf_lex.proofs.WordLexemes.{existential_lexeme, lone_underscore, number_lexeme, word_lexeme}

-- what comes before the bytes, or what is at fault there
abbrev pub Seen : List ℕ → Place → Type 0
Seen bs at = ((lexeme : Lexeme) × IsNext lexeme bs) ⊎ ((fault : LexFault) × IsFaultAt fault bs at)

seen-comment : (bs : List ℕ) (at : Place) → begins_comment bs ≡ true → Seen bs at
seen-comment bs at c = go (close_length (drop 2 bs)) refl
  where
    go : (o : Option ℕ) → close_length (drop 2 bs) ≡ o → Seen bs at
    go (Some n) e = inl (_, comment_stands bs n c e)
    go None e = inr (OpenComment at, (refl, comment_open bs c e))

-- the longest token is too long, or a bad number, or a token of the file
seen-token : (kind : Kind) (bs text after : List ℕ) (at : Place) → text ++ after ≡ bs → IsLexeme kind text after → Seen bs at
seen-token kind bs text after at e lexeme = go (is_long_word kind (length text)) (is_bad_number kind text after) refl refl
  where
    go : (long bad : Bool) → is_long_word kind (length text) ≡ long → is_bad_number kind text after ≡ bad → Seen bs at
    go true bad l b = inr (LongWord at, (refl, record { kind = kind; text = text; after = after; spells = sym e; lexeme = lexeme; long = l }))
    go false true l b = inr (BadNumber at, (refl, record { kind = kind; text = text; after = after; spells = sym e; lexeme = lexeme; bad = b }))
    go false false l b = inl (lexeme_of (token kind text), record { piece = token kind text; rest = after; spells = sym e; each = (lexeme, l, b); is = refl })

seen-word : (bs : List ℕ) (at : Place) → 0 < length bs → is_letter (slice_index bs 0) ≡ true → Seen bs at
seen-word bs at some l = seen-token _ bs _ _ at (take-append-drop (word_length bs) bs) (word_lexeme bs some l)

seen-existential : (bs : List ℕ) (at : Place) → 0 < length bs → slice_index bs 0 ≡ 95 → Seen bs at
seen-existential bs at some u = go (nat_lt (word_length bs) 2) refl
  where
    go : (t : Bool) → nat_lt (word_length bs) 2 ≡ t → Seen bs at
    go true e = inr (BadByte at, (refl, lone_underscore bs some u (ltb-true (word_length bs) 2 e)))
    go false e = seen-token _ bs _ _ at (take-append-drop (word_length bs) bs) (existential_lexeme bs some u (ltb-false (word_length bs) 2 e))

seen-number : (bs : List ℕ) (at : Place) → begins_number bs ≡ true → Seen bs at
seen-number bs at d = seen-token _ bs _ _ at (take-append-drop (number_length bs) bs) (number_lexeme bs d)

seen-symbol : (bs : List ℕ) (at : Place) → 0 < length bs → is_blank (slice_index bs 0) ≡ false → begins_comment bs ≡ false → is_letter (slice_index bs 0) ≡ false → (slice_index bs 0 == 95) ≡ false → begins_number bs ≡ false → Seen bs at
seen-symbol bs at some b c l u d = go (symbol_lexeme bs) refl
  where
    go : (o : Option (Kind × ℕ)) → symbol_lexeme bs ≡ o → Seen bs at
    go (Some p) e = inl (_, symbol_some bs p.0 p.1 l u d e)
    go None e = inr (BadByte at, (refl, symbol_none bs some b c l u d e))

-- where a byte is left, something comes next or is at fault
pub seen-some : (bs : List ℕ) (at : Place) → 0 < length bs → Seen bs at
seen-some bs at some = go (is_blank (slice_index bs 0)) (begins_comment bs) (is_letter (slice_index bs 0)) (slice_index bs 0 == 95) (begins_number bs) refl refl refl refl refl
  where
    go : (blank comment letter underscore number : Bool) → is_blank (slice_index bs 0) ≡ blank → begins_comment bs ≡ comment → is_letter (slice_index bs 0) ≡ letter
        → (slice_index bs 0 == 95) ≡ underscore → begins_number bs ≡ number → Seen bs at
    go true comment letter underscore number b c l u d = inl (_, blank_stands bs some b)
    go false true letter underscore number b c l u d = seen-comment bs at c
    go false false true underscore number b c l u d = seen-word bs at some l
    go false false false true number b c l u d = seen-existential bs at some (eqb-true (slice_index bs 0) 95 u)
    go false false false false true b c l u d = seen-number bs at d
    go false false false false false b c l u d = seen-symbol bs at some b c l u d

-- the bytes are tokens, or have a fault
abbrev pub Reads : List ℕ → Type 0
Reads bytes = ((ts : List Token) × AreTokens bytes ts) ⊎ ((e : LexFault) × IsFault bytes e)

-- what was read goes on to the end or to a fault, where no more than so many bytes are left
reads-on : (fuel : ℕ) (bytes : List ℕ) (start : ℕ) (at : Place) (found : List Token) → length bytes ≤ FILE_BYTES → length bytes ≤ start + fuel → ReadSo bytes start at found → Reads bytes
reads-on zero bytes start at found short enough r = inl (found, finish bytes start at found short (omega arith) r)
reads-on (suc fuel) bytes start at found short enough r = go (nat_lt start (length bytes)) refl (reads-on fuel bytes)
  where
    go : (t : Bool) → nat_lt start (length bytes) ≡ t
        → ((start : ℕ) (at : Place) (found : List Token) → length bytes ≤ FILE_BYTES → length bytes ≤ start + fuel → ReadSo bytes start at found → Reads bytes) → Reads bytes
    go false e more = inl (found, finish bytes start at found short (ltb-false start (length bytes) e) r)
    go true e more =
        let before : start < length bytes = ltb-true start (length bytes) e in
        let left : length (drop start bytes) ≡ length bytes - start = length-drop start bytes in
        elim (seen-some (drop start bytes) at (omega arith)) [
          | inl s ↦
              let further : 0 < bytes_of s.0 = lexeme_some s.0 (drop start bytes) s.1 in
              more (start + bytes_of s.0) _ _ short (omega arith) (step bytes start at found s.0 r s.1)
          | inr s ↦ inr (s.0, stop bytes start at found s.0 short r s.1)
        ]

-- each byte string reads
pub reads-some : (bytes : List ℕ) → Reads bytes
reads-some bytes = go (nat_lt FILE_BYTES (length bytes)) refl
  where
    go : (t : Bool) → nat_lt FILE_BYTES (length bytes) ≡ t → Reads bytes
    go true e = inr (LongFile, ltb-true FILE_BYTES (length bytes) e)
    go false e = reads-on (length bytes) bytes 0 first_place [] (ltb-false FILE_BYTES (length bytes) e) (omega arith) (nothing_read bytes)
