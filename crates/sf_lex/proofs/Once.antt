-- Each byte string reads in one way: two readings have the same pieces.
use Rattle.std.proofs.Common.{◌≡◌, ◌<◌, ◌≤◌, ◌==◌, ℕ, List, [], ◌∷◌, ◌++◌, length, true, false, Bool, ◌&&◌, Some, None, refl, ap, sym, ◌∙◌, arith, subst, append_assoc}
use Rattle.std.proofs.lemmas.Bool.{or_parts}
use Rattle.std.proofs.lemmas.Bool.Decides.{nat_tests}
use Rattle.std.specs.List.{slice_index}
use Rattle.sf_base.specs.declared.limits.TheConstants.{FILE_BYTES}
use Rattle.sf_base.specs.declared.place.Place.{Place}
use Rattle.sf_lex.specs.declared.fault.LexFault.{LexFault}
use Rattle.sf_lex.specs.declared.fault.LexFault.TheVariants.{BadByte, LongWord, OpenComment, BadNumber, LongFile, OutOfMemory}
use Rattle.sf_lex.specs.declared.token.Kind.{Kind}
use Rattle.sf_lex.specs.declared.token.Kind.TheVariants as k
use Rattle.sf_lex.specs.declared.token.Token.{Token}
use Rattle.sf_lex.specs.Lexeme.{is_blank, kind_of}
use Rattle.sf_lex.specs.Piece.{Piece, blank, comment, token, text_of, spelled, has_close, is_long_word, is_bad_number, IsLexeme, IsPiece, ArePieces}
use Rattle.sf_lex.specs.Reading.{AreTokens, IsFault, IsFaultAt, IsBadByte, IsLongWord, IsBadNumber, StopsAt, tokens_of, first_place, place_behind}
use Rattle.sf_lex.specs.Checked.Laws.{EachFileReadsOnce}
use Rattle.sf_lex.proofs.CommentLexemes.{close_there}
use Rattle.sf_lex.proofs.EachReads.{reads-some}

-- of two prefixes of one byte string the first goes on to the second, or the other way round
data Compared (a b r s : List ℕ) : Type 0 where
  alike : a ≡ b → r ≡ s → Compared a b r s
  longer : (x : ℕ) (more : List ℕ) → b ≡ a ++ x ∷ more → r ≡ x ∷ (more ++ s) → Compared a b r s
  shorter : (x : ℕ) (more : List ℕ) → a ≡ b ++ x ∷ more → s ≡ x ∷ (more ++ r) → Compared a b r s

compare_lexemes : (a b r s : List ℕ) → a ++ r ≡ b ++ s → Compared a b r s
compare_lexemes [] [] r s e = alike refl e
compare_lexemes [] (x ∷ b) r s e = longer x b refl e
compare_lexemes (x ∷ a) [] r s e = shorter x a refl (sym e)
compare_lexemes (x ∷ a) (y ∷ b) r s e =
    let head : x ≡ y = cc in
    let tail : a ++ r ≡ b ++ s = cc in
    elim (compare_lexemes a b r s tail) [
      | alike h t ↦ alike (cc) t
      | longer z more h t ↦ longer z more (cc) t
      | shorter z more h t ↦ shorter z more (cc) t
    ]

-- one kind and one text
record SameLexeme (one two : Kind) (a b r s : List ℕ) : Type 0 where
  kind : one ≡ two
  text : a ≡ b
  rest : r ≡ s

same_lexeme : (one two : Kind) (a b r s : List ℕ) → IsLexeme one a r → IsLexeme two b s → a ++ r ≡ b ++ s → SameLexeme one two a b r s
same_lexeme one two a b r s p q e =
    elim (compare_lexemes a b r s e) [
      | alike h t ↦ let there : kind_of b ≡ Some two = q.is in let here : kind_of a ≡ Some one = p.is in record { kind = cc; text = h; rest = t }
      | longer x more h t ↦
          let none : kind_of (a ++ x ∷ more) ≡ None = p.longest x more s t in
          let there : kind_of b ≡ Some two = q.is in
          absurd cc
      | shorter x more h t ↦
          let none : kind_of (b ++ x ∷ more) ≡ None = q.longest x more r t in
          let here : kind_of a ≡ Some one = p.is in
          absurd cc
    ]

-- a first byte begins no token where no text after it, of whatever length, makes one
by_length : (n : ℕ) → kind_of (n ∷ []) ≡ None → ((b : ℕ) → kind_of (n ∷ b ∷ []) ≡ None) → ((b c : ℕ) → kind_of (n ∷ b ∷ c ∷ []) ≡ None)
    → ((b c d : ℕ) (bs : List ℕ) → kind_of (n ∷ b ∷ c ∷ d ∷ bs) ≡ None) → (bs : List ℕ) → kind_of (n ∷ bs) ≡ None
by_length n none one two more [] = none
by_length n none one two more (b ∷ []) = one b
by_length n none one two more (b ∷ c ∷ []) = two b c
by_length n none one two more (b ∷ c ∷ d ∷ bs) = more b c d bs

not_blank : (b : ℕ) → is_blank b ≡ true → (b == 32) ≡ false → (b == 9) ≡ false → (b == 13) ≡ false → (b == 10) ≡ false → ⊥
not_blank b e x y z w = let wrong : false ≡ true = rw (x, y, z, w) at e in cc

-- a blank begins no token
blank_no_token : (b : ℕ) (bs : List ℕ) → is_blank b ≡ true → kind_of (b ∷ bs) ≡ None
blank_no_token b bs e = at_32 (b == 32) refl
  where
    none_at : (n : ℕ) → (b == n) ≡ true → kind_of (n ∷ bs) ≡ None → kind_of (b ∷ bs) ≡ None
    none_at n h k = let same : n ≡ b = grind (arith, nat_tests) in subst (λ x. kind_of (x ∷ bs) ≡ None) same k

    at_10 : (b == 32) ≡ false → (b == 9) ≡ false → (b == 13) ≡ false → (t : Bool) → (b == 10) ≡ t → kind_of (b ∷ bs) ≡ None
    at_10 x y z true h = none_at 10 h (by_length 10 refl (λ b. refl) (λ b c. refl) (λ b c d bs. refl) bs)
    at_10 x y z false h = absurd (not_blank b e x y z h)

    at_13 : (b == 32) ≡ false → (b == 9) ≡ false → (t : Bool) → (b == 13) ≡ t → kind_of (b ∷ bs) ≡ None
    at_13 x y true h = none_at 13 h (by_length 13 refl (λ b. refl) (λ b c. refl) (λ b c d bs. refl) bs)
    at_13 x y false h = at_10 x y h (b == 10) refl

    at_9 : (b == 32) ≡ false → (t : Bool) → (b == 9) ≡ t → kind_of (b ∷ bs) ≡ None
    at_9 x true h = none_at 9 h (by_length 9 refl (λ b. refl) (λ b c. refl) (λ b c d bs. refl) bs)
    at_9 x false h = at_13 x h (b == 13) refl

    at_32 : (t : Bool) → (b == 32) ≡ t → kind_of (b ∷ bs) ≡ None
    at_32 true h = none_at 32 h (by_length 32 refl (λ b. refl) (λ b c. refl) (λ b c d bs. refl) bs)
    at_32 false h = at_9 h (b == 9) refl

-- nor does `/*`
comment_no_token : (bs : List ℕ) → kind_of (47 ∷ 42 ∷ bs) ≡ None
comment_no_token [] = refl
comment_no_token (b ∷ []) = refl
comment_no_token (b ∷ c ∷ bs) = refl

-- two comments at one place are one
same_comment : (a b r s : List ℕ) → has_close (a ++ 42 ∷ []) ≡ false → has_close (b ++ 42 ∷ []) ≡ false → a ++ 42 ∷ 47 ∷ r ≡ b ++ 42 ∷ 47 ∷ s → (a ≡ b) × (r ≡ s)
same_comment [] [] r s p q e = let t : r ≡ s = cc in (refl, t)
same_comment [] (x ∷ []) r s p q e =
    let wrong : true ≡ false = ap (λ xs. slice_index xs 1 == 47) e in
    absurd cc
same_comment [] (x ∷ y ∷ b) r s p q e =
    let first : x ≡ 42 = cc in
    let second : y ≡ 47 = cc in
    let there : has_close (42 ∷ 47 ∷ (b ++ 42 ∷ [])) ≡ false = subst (λ v. has_close (v ∷ 47 ∷ (b ++ 42 ∷ [])) ≡ false) first (subst (λ w. has_close (x ∷ w ∷ (b ++ 42 ∷ [])) ≡ false) second q) in
    absurd cc
same_comment (x ∷ []) [] r s p q e =
    let wrong : false ≡ true = ap (λ xs. slice_index xs 1 == 47) e in
    absurd cc
same_comment (x ∷ y ∷ a) [] r s p q e =
    let first : x ≡ 42 = cc in
    let second : y ≡ 47 = cc in
    let there : has_close (42 ∷ 47 ∷ (a ++ 42 ∷ [])) ≡ false = subst (λ v. has_close (v ∷ 47 ∷ (a ++ 42 ∷ [])) ≡ false) first (subst (λ w. has_close (x ∷ w ∷ (a ++ 42 ∷ [])) ≡ false) second p) in
    absurd cc
same_comment (x ∷ a) (y ∷ b) r s p q e =
    let head : x ≡ y = cc in
    let tail : a ++ 42 ∷ 47 ∷ r ≡ b ++ 42 ∷ 47 ∷ s = cc in
    let rest = same_comment a b r s (or_parts _ _ p).1 (or_parts _ _ q).1 tail in
    let text : a ≡ b = rest.0 in
    let both : x ∷ a ≡ y ∷ b = cc in
    (both, rest.1)

-- whether the bytes begin with `/*`
abbrev opens : List ℕ → Bool
opens bs = (slice_index bs 0 == 47) && (slice_index bs 1 == 42)

no_blank_comment : (b : ℕ) (bs : List ℕ) → is_blank b ≡ true → opens (b ∷ bs) ≡ false
no_blank_comment b bs e = grind (arith, nat_tests)

no_blank_token : (b : ℕ) (bs : List ℕ) (kind : Kind) (text rest : List ℕ) → is_blank b ≡ true → kind_of text ≡ Some kind → b ∷ bs ≡ text ++ rest → ⊥
no_blank_token b bs kind [] rest l e h = cc
no_blank_token b bs kind (c ∷ text) rest l e h =
    let same : b ≡ c = cc in
    let none : kind_of (c ∷ text) ≡ None = blank_no_token c text (subst (λ x. is_blank x ≡ true) same l) in
    cc

no_comment_token : (bs : List ℕ) (kind : Kind) (text rest : List ℕ) → kind_of text ≡ Some kind → 47 ∷ 42 ∷ bs ≡ text ++ rest → ⊥
no_comment_token bs kind [] rest e h = cc
no_comment_token bs kind (c ∷ []) rest e h =
    let same : 47 ≡ c = cc in
    let there : kind_of (47 ∷ []) ≡ Some kind = subst (λ x. kind_of (x ∷ []) ≡ Some kind) (sym same) e in
    cc
no_comment_token bs kind (c ∷ d ∷ text) rest e h =
    let same : 47 ≡ c = cc in
    let next : 42 ≡ d = cc in
    let none : kind_of (47 ∷ 42 ∷ text) ≡ None = comment_no_token text in
    let there : kind_of (47 ∷ 42 ∷ text) ≡ Some kind = subst (λ x. kind_of (x ∷ 42 ∷ text) ≡ Some kind) (sym same) (subst (λ y. kind_of (c ∷ y ∷ text) ≡ Some kind) (sym next) e) in
    cc

-- two pieces at one place are one
record SamePiece (p q : Piece) (r s : List ℕ) : Type 0 where
  piece : p ≡ q
  rest : r ≡ s

blank_or_comment : (b : ℕ) (bs inside : List ℕ) → is_blank b ≡ true → b ∷ bs ≡ 47 ∷ 42 ∷ inside → ⊥
blank_or_comment b bs inside l e =
    let no_open : opens (47 ∷ 42 ∷ inside) ≡ false = subst (λ xs. opens xs ≡ false) e (no_blank_comment b bs l) in
    cc

-- the bytes of a comment and then the rest
comment_text : (inner rest : List ℕ) → text_of (comment inner) ++ rest ≡ 47 ∷ 42 ∷ (inner ++ 42 ∷ 47 ∷ rest)
comment_text inner rest = ap (λ xs. 47 ∷ 42 ∷ xs) (append_assoc inner (42 ∷ 47 ∷ []) rest)

both_comments : (a b r s : List ℕ) → has_close (a ++ 42 ∷ []) ≡ false → has_close (b ++ 42 ∷ []) ≡ false → 47 ∷ 42 ∷ (a ++ 42 ∷ 47 ∷ r) ≡ 47 ∷ 42 ∷ (b ++ 42 ∷ 47 ∷ s) → SamePiece (comment a) (comment b) r s
both_comments a b r s p q e =
    let tail : a ++ 42 ∷ 47 ∷ r ≡ b ++ 42 ∷ 47 ∷ s = cc in
    let same = same_comment a b r s p q tail in
    record { piece = ap comment same.0; rest = same.1 }

same_piece : (p q : Piece) (r s : List ℕ) → IsPiece p r → IsPiece q s → text_of p ++ r ≡ text_of q ++ s → SamePiece p q r s
same_piece (blank a) (blank b) r s p q e = record { piece = (let t : a ≡ b = cc in cc); rest = cc }
same_piece (blank a) (comment b) r s p q e = absurd (blank_or_comment a r (b ++ 42 ∷ 47 ∷ s) p (e ∙ comment_text b s))
same_piece (blank a) (token k b) r s p q e = absurd (no_blank_token a r k b s p q.0.is e)
same_piece (comment a) (blank b) r s p q e = absurd (blank_or_comment b s (a ++ 42 ∷ 47 ∷ r) q (sym e ∙ comment_text a r))
same_piece (comment a) (comment b) r s p q e = both_comments a b r s p q (sym (comment_text a r) ∙ e ∙ comment_text b s)
same_piece (comment a) (token k b) r s p q e = absurd (no_comment_token (a ++ 42 ∷ 47 ∷ r) k b s q.0.is (sym (comment_text a r) ∙ e))
same_piece (token j a) (blank b) r s p q e = absurd (no_blank_token b s j a r q p.0.is (sym e))
same_piece (token j a) (comment b) r s p q e = absurd (no_comment_token (b ++ 42 ∷ 47 ∷ s) j a r p.0.is (sym (comment_text b s) ∙ sym e))
same_piece (token j a) (token k b) r s p q e =
    let same = same_lexeme j k a b r s p.0 q.0 e in
    let kind : j ≡ k = same.kind in
    let text : a ≡ b = same.text in
    record { piece = cc; rest = same.rest }

-- no piece comes next
abbrev NoPiece : List ℕ → Type 0
NoPiece bytes = (p : Piece) (rest : List ℕ) → IsPiece p rest → bytes ≡ text_of p ++ rest → ⊥

-- of two readings that go on as far as they can, the pieces and what is left are the same
record SameRun (ps qs : List Piece) (r s : List ℕ) : Type 0 where
  pieces : ps ≡ qs
  rest : r ≡ s

same_run : (ps qs : List Piece) (r s : List ℕ) → ArePieces ps r → ArePieces qs s → NoPiece r → NoPiece s → spelled ps r ≡ spelled qs s → SameRun ps qs r s
same_run [] [] r s a b x y e = record { pieces = refl; rest = e }
same_run [] (q ∷ qs) r s a b x y e = absurd (x q (spelled qs s) b.0 e)
same_run (p ∷ ps) [] r s a b x y e = absurd (y p (spelled ps r) a.0 (sym e))
same_run (p ∷ ps) (q ∷ qs) r s a b x y e =
    let first = same_piece p q (spelled ps r) (spelled qs s) a.0 b.0 e in
    let more = same_run ps qs r s a.1 b.1 x y first.rest in
    let one : p ≡ q = first.piece in
    let all : ps ≡ qs = more.pieces in
    record { pieces = cc; rest = more.rest }

no_piece_end : NoPiece []
no_piece_end (blank b) rest p e = cc
no_piece_end (comment inner) rest p e = cc
no_piece_end (token kind []) rest p e = let there : None ≡ Some kind = p.0.is in cc
no_piece_end (token kind (b ∷ text)) rest p e = cc

no_piece_bad : (bytes : List ℕ) → IsBadByte bytes → NoPiece bytes
no_piece_bad bytes f (blank b) rest p e =
    let no : is_blank b ≡ false = subst (λ xs. is_blank (slice_index xs 0) ≡ false) e f.no_blank in
    let there : is_blank b ≡ true = p in
    cc
no_piece_bad bytes f (comment inner) rest p e = f.no_comment (inner ++ 42 ∷ 47 ∷ rest) (e ∙ comment_text inner rest)
no_piece_bad bytes f (token kind text) rest p e =
    let no : kind_of text ≡ None = f.no_token text rest e in
    let there : kind_of text ≡ Some kind = p.0.is in
    cc

no_piece_token : (bytes : List ℕ) (kind : Kind) (text after : List ℕ) → IsLexeme kind text after → bytes ≡ text ++ after
    → ((is_long_word kind (length text) ≡ false) → (is_bad_number kind text after ≡ false) → ⊥) → NoPiece bytes
no_piece_token bytes kind text after f h wrong (blank b) rest p e = no_blank_token b rest kind text after p f.is (sym e ∙ h)
no_piece_token bytes kind text after f h wrong (comment inner) rest p e = no_comment_token (inner ++ 42 ∷ 47 ∷ rest) kind text after f.is (sym (comment_text inner rest) ∙ sym e ∙ h)
no_piece_token bytes kind text after f h wrong (token other own) rest p e =
    let same = same_lexeme other kind own text rest after p.0 f (sym e ∙ h) in
    let kinds : other ≡ kind = same.kind in
    let texts : own ≡ text = same.text in
    let rests : rest ≡ after = same.rest in
    let short : is_long_word other (length own) ≡ false = p.1 in
    let order : is_bad_number other own rest ≡ false = p.2 in
    wrong (subst (λ k. is_long_word k (length text) ≡ false) kinds (subst (λ t. is_long_word other (length t) ≡ false) texts short))
    (subst (λ r. is_bad_number kind text r ≡ false) rests (subst (λ k. is_bad_number k text rest ≡ false) kinds (subst (λ t. is_bad_number other t rest ≡ false) texts order)))

no_piece_open : (bytes inside : List ℕ) → bytes ≡ 47 ∷ 42 ∷ inside → has_close inside ≡ false → NoPiece bytes
no_piece_open bytes inside h c (blank b) rest p e = blank_or_comment b rest inside p (sym e ∙ h)
no_piece_open bytes inside h c (comment inner) rest p e =
    let whole : 47 ∷ 42 ∷ (inner ++ 42 ∷ 47 ∷ rest) ≡ 47 ∷ 42 ∷ inside = sym (comment_text inner rest) ∙ sym e ∙ h in
    let same : inner ++ 42 ∷ 47 ∷ rest ≡ inside = cc in
    let no : has_close (inner ++ 42 ∷ 47 ∷ rest) ≡ false = subst (λ xs. has_close xs ≡ false) (sym same) c in
    let there : has_close (inner ++ 42 ∷ 47 ∷ rest) ≡ true = close_there inner rest in
    cc
no_piece_open bytes inside h c (token kind text) rest p e = no_comment_token inside kind text rest p.0.is (sym h ∙ e)

no_piece : (fault : LexFault) (bytes : List ℕ) (at : Place) → IsFaultAt fault bytes at → NoPiece bytes
no_piece (BadByte place) bytes at f = no_piece_bad bytes f.1
no_piece (LongWord place) bytes at f = no_piece_token bytes f.1.kind f.1.text f.1.after f.1.lexeme f.1.spells (λ no _. let there : is_long_word f.1.kind (length f.1.text) ≡ true = f.1.long in cc)
no_piece (OpenComment place) bytes at f = no_piece_open bytes f.1.inside f.1.spells f.1.unclosed
no_piece (BadNumber place) bytes at f = no_piece_token bytes f.1.kind f.1.text f.1.after f.1.lexeme f.1.spells (λ _ no. let there : is_bad_number f.1.kind f.1.text f.1.after ≡ true = f.1.bad in cc)
no_piece LongFile bytes at f = absurd f
no_piece OutOfMemory bytes at f = absurd f

-- a fault needs a byte
token_not_empty : (kind : Kind) (text after : List ℕ) → kind_of text ≡ Some kind → [] ≡ text ++ after → ⊥
token_not_empty kind [] after e h = cc
token_not_empty kind (b ∷ text) after e h = cc

not_empty : (fault : LexFault) (at : Place) → IsFaultAt fault [] at → ⊥
not_empty (BadByte place) at f = let some : 0 < 0 = f.1.some in omega arith
not_empty (LongWord place) at f = token_not_empty f.1.kind f.1.text f.1.after f.1.lexeme.is f.1.spells
not_empty (OpenComment place) at f = let none : [] ≡ 47 ∷ 42 ∷ f.1.inside = f.1.spells in cc
not_empty (BadNumber place) at f = token_not_empty f.1.kind f.1.text f.1.after f.1.lexeme.is f.1.spells
not_empty LongFile at f = f
not_empty OutOfMemory at f = f

-- of what is at one place one thing is at fault
bad_no_token : (bytes : List ℕ) (kind : Kind) (text after : List ℕ) → IsBadByte bytes → kind_of text ≡ Some kind → bytes ≡ text ++ after → ⊥
bad_no_token bytes kind text after f e h = let no : kind_of text ≡ None = f.no_token text after h in cc

long_or_bad : (kind : Kind) (text after : List ℕ) → is_long_word kind (length text) ≡ true → is_bad_number kind text after ≡ true → ⊥
long_or_bad k.Number text after e h = cc
long_or_bad _ text after e h = cc

long_no_bad : (bytes : List ℕ) → IsLongWord bytes → IsBadNumber bytes → ⊥
long_no_bad bytes f g =
    let same = same_lexeme f.kind g.kind f.text g.text f.after g.after f.lexeme g.lexeme (sym f.spells ∙ g.spells) in
    let long : is_long_word f.kind (length f.text) ≡ true = f.long in
    long_or_bad g.kind g.text g.after (subst (λ k. is_long_word k (length g.text) ≡ true) same.kind (subst (λ t. is_long_word f.kind (length t) ≡ true) same.text long)) g.bad

same_fault : (e f : LexFault) (bytes : List ℕ) (at : Place) → IsFaultAt e bytes at → IsFaultAt f bytes at → e ≡ f
same_fault (BadByte p) (BadByte q) bytes at a b = ap BadByte (a.0 ∙ sym b.0)
same_fault (BadByte p) (LongWord q) bytes at a b = absurd (bad_no_token bytes b.1.kind b.1.text b.1.after a.1 b.1.lexeme.is b.1.spells)
same_fault (BadByte p) (OpenComment q) bytes at a b = absurd (a.1.no_comment b.1.inside b.1.spells)
same_fault (BadByte p) (BadNumber q) bytes at a b = absurd (bad_no_token bytes b.1.kind b.1.text b.1.after a.1 b.1.lexeme.is b.1.spells)
same_fault (LongWord p) (BadByte q) bytes at a b = absurd (bad_no_token bytes a.1.kind a.1.text a.1.after b.1 a.1.lexeme.is a.1.spells)
same_fault (LongWord p) (LongWord q) bytes at a b = ap LongWord (a.0 ∙ sym b.0)
same_fault (LongWord p) (OpenComment q) bytes at a b = absurd (no_comment_token b.1.inside a.1.kind a.1.text a.1.after a.1.lexeme.is (sym b.1.spells ∙ a.1.spells))
same_fault (LongWord p) (BadNumber q) bytes at a b = absurd (long_no_bad bytes a.1 b.1)
same_fault (OpenComment p) (BadByte q) bytes at a b = absurd (b.1.no_comment a.1.inside a.1.spells)
same_fault (OpenComment p) (LongWord q) bytes at a b = absurd (no_comment_token a.1.inside b.1.kind b.1.text b.1.after b.1.lexeme.is (sym a.1.spells ∙ b.1.spells))
same_fault (OpenComment p) (OpenComment q) bytes at a b = ap OpenComment (a.0 ∙ sym b.0)
same_fault (OpenComment p) (BadNumber q) bytes at a b = absurd (no_comment_token a.1.inside b.1.kind b.1.text b.1.after b.1.lexeme.is (sym a.1.spells ∙ b.1.spells))
same_fault (BadNumber p) (BadByte q) bytes at a b = absurd (bad_no_token bytes a.1.kind a.1.text a.1.after b.1 a.1.lexeme.is a.1.spells)
same_fault (BadNumber p) (LongWord q) bytes at a b = absurd (long_no_bad bytes b.1 a.1)
same_fault (BadNumber p) (OpenComment q) bytes at a b = absurd (no_comment_token b.1.inside a.1.kind a.1.text a.1.after a.1.lexeme.is (sym b.1.spells ∙ a.1.spells))
same_fault (BadNumber p) (BadNumber q) bytes at a b = ap BadNumber (a.0 ∙ sym b.0)
same_fault LongFile f bytes at a b = absurd a
same_fault OutOfMemory f bytes at a b = absurd a
same_fault e LongFile bytes at a b = absurd b
same_fault e OutOfMemory bytes at a b = absurd b

pub tokens_once : (bytes : List ℕ) (ts us : List Token) → AreTokens bytes ts → AreTokens bytes us → ts ≡ us
tokens_once bytes ts us t u =
    let same = same_run t.pieces u.pieces [] [] t.each u.each no_piece_end no_piece_end (sym t.spells ∙ u.spells) in
    t.are ∙ ap (λ ps. tokens_of ps 0 first_place) same.pieces ∙ sym u.are

stops_once : (bytes : List ℕ) (e f : LexFault) → StopsAt bytes e → StopsAt bytes f → e ≡ f
stops_once bytes e f s t =
    let at : List Piece → Place = λ ps. place_behind first_place (spelled ps []) in
    let same = same_run s.pieces t.pieces s.rest t.rest s.each t.each (no_piece e s.rest (at s.pieces) s.stands) (no_piece f t.rest (at t.pieces) t.stands) (sym s.spells ∙ t.spells) in
    same_fault e f t.rest (at t.pieces)
    (subst (λ r. IsFaultAt e r (at t.pieces)) same.rest (subst (λ ps. IsFaultAt e s.rest (at ps)) same.pieces s.stands)) t.stands

apart_once : (bytes : List ℕ) (ts : List Token) (e : LexFault) → AreTokens bytes ts → StopsAt bytes e → ⊥
apart_once bytes ts e t s =
    let at : Place = place_behind first_place (spelled s.pieces []) in
    let same = same_run s.pieces t.pieces s.rest [] s.each t.each (no_piece e s.rest at s.stands) no_piece_end (sym s.spells ∙ t.spells) in
    not_empty e at (subst (λ r. IsFaultAt e r at) same.rest s.stands)

stops_of : (bytes : List ℕ) (e : LexFault) → length bytes ≤ FILE_BYTES → IsFault bytes e → StopsAt bytes e
stops_of bytes (BadByte place) short f = f
stops_of bytes (LongWord place) short f = f
stops_of bytes (OpenComment place) short f = f
stops_of bytes (BadNumber place) short f = f
stops_of bytes LongFile short f = absurd (omega arith)
stops_of bytes OutOfMemory short f = absurd f

faults_once : (bytes : List ℕ) (e f : LexFault) → IsFault bytes e → IsFault bytes f → e ≡ f
faults_once bytes (BadByte p) f s t = stops_once bytes (BadByte p) f s (stops_of bytes f s.short t)
faults_once bytes (LongWord p) f s t = stops_once bytes (LongWord p) f s (stops_of bytes f s.short t)
faults_once bytes (OpenComment p) f s t = stops_once bytes (OpenComment p) f s (stops_of bytes f s.short t)
faults_once bytes (BadNumber p) f s t = stops_once bytes (BadNumber p) f s (stops_of bytes f s.short t)
faults_once bytes LongFile (BadByte p) s t = let short : length bytes ≤ FILE_BYTES = t.short in absurd (omega arith)
faults_once bytes LongFile (LongWord p) s t = let short : length bytes ≤ FILE_BYTES = t.short in absurd (omega arith)
faults_once bytes LongFile (OpenComment p) s t = let short : length bytes ≤ FILE_BYTES = t.short in absurd (omega arith)
faults_once bytes LongFile (BadNumber p) s t = let short : length bytes ≤ FILE_BYTES = t.short in absurd (omega arith)
faults_once bytes LongFile LongFile s t = refl
faults_once bytes LongFile OutOfMemory s t = absurd t
faults_once bytes OutOfMemory f s t = absurd s

-- each byte string reads as one list of tokens, or with one fault, and never both ways
pub once : EachFileReadsOnce
once bytes = record {
  some = reads-some bytes;
  tokens = tokens_once bytes;
  faults = faults_once bytes;
  apart = λ ts e t f. apart_once bytes ts e t (stops_of bytes e t.short f);
}
