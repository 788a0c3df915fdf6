-- One piece further: what was read so far, and the places and tokens of it.
use Rattle.std.proofs.Common.{◌≡◌, ◌<◌, ◌≤◌, ◌+◌, ◌-◌, ◌==◌, ℕ, List, [], ◌∷◌, ◌++◌, length, take, drop, true, false, Bool, cond, None, Some, refl, ap, sym, ◌∙◌, arith, subst, append_assoc, append-nil, length-append, length-drop, length-take}
use Rattle.std.proofs.lemmas.List.{drop-drop, drop_all, drop_at, take_at}
use Rattle.sf_base.specs.declared.limits.TheConstants.{FILE_BYTES}
use Rattle.sf_base.specs.declared.place.Place.{Place}
use Rattle.sf_lex.specs.declared.fault.LexFault.{LexFault}
use Rattle.sf_lex.specs.declared.fault.LexFault.TheVariants.{BadByte, LongWord, OpenComment, BadNumber, LongFile, OutOfMemory}
use Rattle.sf_lex.specs.declared.lexeme.Lexeme.{Lexeme}
use Rattle.sf_lex.specs.declared.token.Token.{Token}
use Rattle.sf_lex.specs.Checked.Lexing.{IsNext, lexeme_of, bytes_of, with_lexeme}
use Rattle.sf_lex.specs.Piece.{Piece, blank, comment, token, text_of, spelled, IsPiece, ArePieces}
use Rattle.sf_lex.specs.Reading.{AreTokens, IsFault, IsFaultAt, StopsAt, value_of, tokens_of, end_place, first_place, next_place, place_behind}

-- the bytes up to a place are pieces with these tokens
pub record ReadSo (bytes : List ℕ) (start : ℕ) (at : Place) (found : List Token) : Type 0 where
  pub pieces : List Piece
  pub spells : bytes ≡ spelled pieces (drop start bytes)
  pub each : ArePieces pieces (drop start bytes)
  pub are : found ≡ tokens_of pieces 0 first_place
  pub behind : at ≡ place_behind first_place (spelled pieces [])
  pub within : start ≡ length (spelled pieces [])

pub nothing_read : (bytes : List ℕ) → ReadSo bytes 0 first_place []
nothing_read bytes = record { pieces = []; spells = refl; each = tt; are = refl; behind = refl; within = refl }

spelled_more : (ps : List Piece) (p : Piece) (rest : List ℕ) → spelled (ps ++ p ∷ []) rest ≡ spelled ps (text_of p ++ rest)
spelled_more [] p rest = refl
spelled_more (q ∷ ps) p rest = ap (λ xs. text_of q ++ xs) (spelled_more ps p rest)

spelled_tail : (ps : List Piece) (rest : List ℕ) → spelled ps rest ≡ spelled ps [] ++ rest
spelled_tail [] rest = refl
spelled_tail (p ∷ ps) rest = ap (λ xs. text_of p ++ xs) (spelled_tail ps rest) ∙ sym (append_assoc (text_of p) (spelled ps []) rest)

pieces_more : (ps : List Piece) (p : Piece) (rest : List ℕ) → ArePieces ps (text_of p ++ rest) → IsPiece p rest → ArePieces (ps ++ p ∷ []) rest
pieces_more [] p rest each one = (one, tt)
pieces_more (q ∷ ps) p rest each one = (subst (λ xs. IsPiece q xs) (sym (spelled_more ps p rest)) each.0, pieces_more ps p rest each.1 one)

pub behind_append : (at : Place) (xs ys : List ℕ) → place_behind at (xs ++ ys) ≡ place_behind (place_behind at xs) ys
behind_append at [] ys = refl
behind_append at (x ∷ xs) ys = behind_append (next_place at x) xs ys

-- the tokens of pieces and one more
tokens_more : (ps : List Piece) (p : Piece) (start : ℕ) (at : Place) → tokens_of (ps ++ p ∷ []) start at ≡ tokens_of ps start at ++ tokens_of (p ∷ []) (start + length (spelled ps [])) (place_behind at (spelled ps []))
tokens_more [] p start at = ap (λ n. tokens_of (p ∷ []) n at) (omega arith)
tokens_more (blank b ∷ ps) p start at =
    let count : (start + 1) + length (spelled ps []) ≡ start + length (b ∷ spelled ps []) = omega arith in
    tokens_more ps p (start + 1) (next_place at b)
    ∙ ap (λ n. tokens_of ps (start + 1) (next_place at b) ++ tokens_of (p ∷ []) n (place_behind (next_place at b) (spelled ps []))) count
tokens_more (comment inner ∷ ps) p start at =
    let text : List ℕ = text_of (comment inner) in
    let count : (start + length (text_of (comment inner))) + length (spelled ps []) ≡ start + length (text_of (comment inner) ++ spelled ps []) = simp length-append (omega arith) in
    tokens_more ps p (start + length text) (place_behind at text)
    ∙ ap (λ n. tokens_of ps (start + length text) (place_behind at text) ++ tokens_of (p ∷ []) n (place_behind (place_behind at text) (spelled ps []))) count
    ∙ ap (λ q. tokens_of ps (start + length text) (place_behind at text) ++ tokens_of (p ∷ []) (start + length (text ++ spelled ps [])) q) (sym (behind_append at text (spelled ps [])))
tokens_more (token kind text ∷ ps) p start at =
    let count : (start + length text) + length (spelled ps []) ≡ start + length (text ++ spelled ps []) = simp length-append (omega arith) in
    let t : Token = record { kind = kind; value = value_of kind text; start = start; end = start + length text; place = at } in
    ap (λ us. t ∷ us)
    (tokens_more ps p (start + length text) (place_behind at text)
    ∙ ap (λ n. tokens_of ps (start + length text) (place_behind at text) ++ tokens_of (p ∷ []) n (place_behind (place_behind at text) (spelled ps []))) count
    ∙ ap (λ q. tokens_of ps (start + length text) (place_behind at text) ++ tokens_of (p ∷ []) (start + length (text ++ spelled ps [])) q) (sym (behind_append at text (spelled ps []))))

lexeme_bytes : (p : Piece) → bytes_of (lexeme_of p) ≡ length (text_of p)
lexeme_bytes (blank b) = refl
lexeme_bytes (comment inner) = refl
lexeme_bytes (token kind text) = refl

lexeme_tokens : (found : List Token) (p : Piece) (start : ℕ) (at : Place) → with_lexeme found (lexeme_of p) start at ≡ found ++ tokens_of (p ∷ []) start at
lexeme_tokens found (blank b) start at = sym (append-nil found)
lexeme_tokens found (comment inner) start at = sym (append-nil found)
lexeme_tokens found (token kind text) start at = refl

drop_lexeme : (lexeme : Lexeme) (bytes : List ℕ) (start : ℕ) (s : IsNext lexeme (drop start bytes)) → drop (start + bytes_of lexeme) bytes ≡ s.rest
drop_lexeme lexeme bytes start s =
    sym (drop-drop (bytes_of lexeme) start bytes)
    ∙ ap (drop (bytes_of lexeme)) s.spells
    ∙ drop_at (text_of s.piece) s.rest (bytes_of lexeme) (sym (ap bytes_of s.is ∙ lexeme_bytes s.piece))

take_lexeme : (lexeme : Lexeme) (bytes : List ℕ) (s : IsNext lexeme bytes) → take (bytes_of lexeme) bytes ≡ text_of s.piece
take_lexeme lexeme bytes s =
    ap (take (bytes_of lexeme)) s.spells
    ∙ take_at (text_of s.piece) s.rest (bytes_of lexeme) (sym (ap bytes_of s.is ∙ lexeme_bytes s.piece))

pub step : (bytes : List ℕ) (start : ℕ) (at : Place) (found : List Token) (lexeme : Lexeme) → ReadSo bytes start at found → IsNext lexeme (drop start bytes)
    → ReadSo bytes (start + bytes_of lexeme) (place_behind at (take (bytes_of lexeme) (drop start bytes))) (with_lexeme found lexeme start at)
step bytes start at found lexeme r s =
    let rest : drop (start + bytes_of lexeme) bytes ≡ s.rest = drop_lexeme lexeme bytes start s in
    let text : take (bytes_of lexeme) (drop start bytes) ≡ text_of s.piece = take_lexeme lexeme (drop start bytes) s in
    let counts : bytes_of lexeme ≡ length (text_of s.piece) = ap bytes_of s.is ∙ lexeme_bytes s.piece in
    record {
      pieces = r.pieces ++ s.piece ∷ [];
      spells =
          r.spells ∙ ap (spelled r.pieces) s.spells ∙ sym (spelled_more r.pieces s.piece s.rest)
          ∙ ap (spelled (r.pieces ++ s.piece ∷ [])) (sym rest);
      each = subst (λ xs. ArePieces (r.pieces ++ s.piece ∷ []) xs) (sym rest) (pieces_more r.pieces s.piece s.rest (subst (λ xs. ArePieces r.pieces xs) s.spells r.each) s.each);
      are =
          ap (λ x. with_lexeme found x start at) s.is ∙ lexeme_tokens found s.piece start at
          ∙ ap (λ xs. xs ++ tokens_of (s.piece ∷ []) start at) r.are
          ∙ ap (λ n. tokens_of r.pieces 0 first_place ++ tokens_of (s.piece ∷ []) n at) (r.within ∙ zero_first (length (spelled r.pieces [])))
          ∙ ap (λ q. tokens_of r.pieces 0 first_place ++ tokens_of (s.piece ∷ []) (0 + length (spelled r.pieces [])) q) r.behind
          ∙ sym (tokens_more r.pieces s.piece 0 first_place);
      behind =
          ap (place_behind at) text ∙ ap (λ q. place_behind q (text_of s.piece)) r.behind
          ∙ sym (behind_append first_place (spelled r.pieces []) (text_of s.piece))
          ∙ ap (place_behind first_place) (sym (whole r.pieces s.piece));
      within =
          ap (λ n. n + bytes_of lexeme) r.within ∙ ap (λ n. length (spelled r.pieces []) + n) counts
          ∙ sym (length-append (spelled r.pieces []) (text_of s.piece)) ∙ ap length (sym (whole r.pieces s.piece));
    }
  where
    zero_first : (n : ℕ) → n ≡ 0 + n
    zero_first n = omega arith

    whole : (ps : List Piece) (p : Piece) → spelled (ps ++ p ∷ []) [] ≡ spelled ps [] ++ text_of p
    whole ps p = spelled_more ps p [] ∙ ap (spelled ps) (append-nil (text_of p)) ∙ spelled_tail ps (text_of p)

pub text_some : (p : Piece) (rest : List ℕ) → IsPiece p rest → 0 < length (text_of p)
text_some (blank b) rest h = omega arith
text_some (comment inner) rest h = omega arith
text_some (token kind []) rest h = let none : None ≡ Some kind = h.0.is in absurd cc
text_some (token kind (b ∷ text)) rest h = omega arith

pub lexeme_some : (lexeme : Lexeme) (bytes : List ℕ) → IsNext lexeme bytes → 0 < bytes_of lexeme
lexeme_some lexeme bytes s =
    let counts : bytes_of lexeme ≡ length (text_of s.piece) = ap bytes_of s.is ∙ lexeme_bytes s.piece in
    let some : 0 < length (text_of s.piece) = text_some s.piece s.rest s.each in
    omega arith

pub lexeme_fits : (lexeme : Lexeme) (bytes : List ℕ) → IsNext lexeme bytes → bytes_of lexeme ≤ length bytes
lexeme_fits lexeme bytes s =
    let counts : bytes_of lexeme ≡ length (text_of s.piece) = ap bytes_of s.is ∙ lexeme_bytes s.piece in
    let whole : length bytes ≡ length (text_of s.piece) + length s.rest = ap length s.spells ∙ length-append (text_of s.piece) s.rest in
    omega arith

line_next : (at : Place) (b : ℕ) → (next_place at b).line ≤ at.line + 1
line_next at b = go (b == 10)
  where
    go : (t : Bool) → (cond {A = Place} t (record { line = at.line + 1; column = 1 }) (record { line = at.line; column = at.column + 1 })).line ≤ at.line + 1
    go true = omega arith
    go false = omega arith

column_next : (at : Place) (b : ℕ) → (next_place at b).column ≤ at.column + 1
column_next at b = go (b == 10)
  where
    go : (t : Bool) → (cond {A = Place} t (record { line = at.line + 1; column = 1 }) (record { line = at.line; column = at.column + 1 })).column ≤ at.column + 1
    go true = omega arith
    go false = omega arith

pub line_behind : (at : Place) (bytes : List ℕ) → (place_behind at bytes).line ≤ at.line + length bytes
line_behind at [] = omega arith
line_behind at (b ∷ bytes) =
    let one : (next_place at b).line ≤ at.line + 1 = line_next at b in
    let more : (place_behind (next_place at b) bytes).line ≤ (next_place at b).line + length bytes = line_behind (next_place at b) bytes in
    omega (arith, one, more)

pub column_behind : (at : Place) (bytes : List ℕ) → (place_behind at bytes).column ≤ at.column + length bytes
column_behind at [] = omega arith
column_behind at (b ∷ bytes) =
    let one : (next_place at b).column ≤ at.column + 1 = column_next at b in
    let more : (place_behind (next_place at b) bytes).column ≤ (next_place at b).column + length bytes = column_behind (next_place at b) bytes in
    omega (arith, one, more)

pub line_bound : (bytes : List ℕ) (start : ℕ) (at : Place) (found : List Token) → ReadSo bytes start at found → at.line ≤ 1 + start
line_bound bytes start at found r =
    let bound : (place_behind first_place (spelled r.pieces [])).line ≤ 1 + length (spelled r.pieces []) = line_behind first_place (spelled r.pieces []) in
    rw (r.behind, r.within) bound

pub column_bound : (bytes : List ℕ) (start : ℕ) (at : Place) (found : List Token) → ReadSo bytes start at found → at.column ≤ 1 + start
column_bound bytes start at found r =
    let bound : (place_behind first_place (spelled r.pieces [])).column ≤ 1 + length (spelled r.pieces []) = column_behind first_place (spelled r.pieces []) in
    rw (r.behind, r.within) bound

pub finish : (bytes : List ℕ) (start : ℕ) (at : Place) (found : List Token) → length bytes ≤ FILE_BYTES → length bytes ≤ start → ReadSo bytes start at found → AreTokens bytes found
finish bytes start at found short done r =
    let none : drop start bytes ≡ [] = drop_all start bytes done in
    record {
      short = short;
      pieces = r.pieces;
      spells = r.spells ∙ ap (spelled r.pieces) none;
      each = subst (λ xs. ArePieces r.pieces xs) none r.each;
      are = r.are;
    }

-- at the end the place is that after the last byte
pub finish_place : (bytes : List ℕ) (start : ℕ) (at : Place) (found : List Token) → length bytes ≤ start → ReadSo bytes start at found → at ≡ end_place bytes
finish_place bytes start at found done r = r.behind ∙ ap (place_behind first_place) (ap (spelled r.pieces) (sym (drop_all start bytes done)) ∙ sym r.spells)

stops : (bytes : List ℕ) (start : ℕ) (at : Place) (found : List Token) (fault : LexFault) → length bytes ≤ FILE_BYTES → ReadSo bytes start at found → IsFaultAt fault (drop start bytes) at → StopsAt bytes fault
stops bytes start at found fault short r f = record {
  short = short;
  pieces = r.pieces;
  rest = drop start bytes;
  spells = r.spells;
  each = r.each;
  stands = subst (λ q. IsFaultAt fault (drop start bytes) q) r.behind f;
}

pub stop : (bytes : List ℕ) (start : ℕ) (at : Place) (found : List Token) (fault : LexFault) → length bytes ≤ FILE_BYTES → ReadSo bytes start at found → IsFaultAt fault (drop start bytes) at → IsFault bytes fault
stop bytes start at found (BadByte place) short r f = stops bytes start at found (BadByte place) short r f
stop bytes start at found (LongWord place) short r f = stops bytes start at found (LongWord place) short r f
stop bytes start at found (OpenComment place) short r f = stops bytes start at found (OpenComment place) short r f
stop bytes start at found (BadNumber place) short r f = stops bytes start at found (BadNumber place) short r f
stop bytes start at found LongFile short r f = absurd f
stop bytes start at found OutOfMemory short r f = absurd f

same_count : (start n : ℕ) → (start + n) - start ≡ n
same_count start n = omega arith

-- one piece further, as the scanner goes
pub step_so : (bytes rest : List ℕ) (start n : ℕ) (at next : Place) (found kept : List Token) (lexeme : Lexeme) → ReadSo bytes start at found → rest ≡ drop start bytes → IsNext lexeme rest → n ≡ bytes_of lexeme
    → next ≡ place_behind at (take ((start + n) - start) (drop start bytes)) → kept ≡ with_lexeme found lexeme start at → ReadSo bytes (start + n) next kept
step_so bytes rest start n at next found kept lexeme r e s count place tokens =
    let one : ReadSo bytes (start + bytes_of lexeme) (place_behind at (take (bytes_of lexeme) (drop start bytes))) (with_lexeme found lexeme start at) =
    step bytes start at found lexeme r (subst (λ xs. IsNext lexeme xs) e s) in
    let two : ReadSo bytes (start + n) (place_behind at (take n (drop start bytes))) (with_lexeme found lexeme start at) =
    subst (λ m. ReadSo bytes (start + m) (place_behind at (take m (drop start bytes))) (with_lexeme found lexeme start at)) (sym count) one in
    let three : ReadSo bytes (start + n) next (with_lexeme found lexeme start at) =
    subst (λ q. ReadSo bytes (start + n) q (with_lexeme found lexeme start at)) (ap (λ m. place_behind at (take m (drop start bytes))) (sym (same_count start n)) ∙ sym place) two in
    subst (λ ts. ReadSo bytes (start + n) next ts) (sym tokens) three

-- the scanner stays within the bytes
pub within_so : (bytes rest : List ℕ) (start n : ℕ) (lexeme : Lexeme) → start ≤ length bytes → rest ≡ drop start bytes → IsNext lexeme rest → n ≡ bytes_of lexeme → start + n ≤ length bytes
within_so bytes rest start n lexeme h e s count =
    let fits : bytes_of lexeme ≤ length rest = lexeme_fits lexeme rest s in
    let left : length rest ≡ length bytes - start = ap length e ∙ length-drop start bytes in
    omega arith

-- so many bytes further a place still has its numbers
pub bound_so : (bytes : List ℕ) (start n place : ℕ) → length bytes ≤ FILE_BYTES → start + n ≤ length bytes → place ≤ 1 + start → place + length (take ((start + n) - start) (drop start bytes)) < 4294967296
bound_so bytes start n place short within h =
    let counts : length (take ((start + n) - start) (drop start bytes)) ≤ (start + n) - start = simp length-take (omega arith) in
    omega arith
