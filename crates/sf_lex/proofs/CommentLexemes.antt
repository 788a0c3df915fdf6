-- Comments: where the first `*/` is.
use Rattle.std.proofs.Common.{◌≡◌, ◌≤◌, ◌+◌, ◌==◌, ℕ, suc, List, [], ◌∷◌, ◌++◌, length, drop, true, false, Bool, ◌&&◌, Some, None, refl, ap, sym, ◌∙◌, arith, subst, append_assoc, length-append}
use Rattle.std.proofs.Math.Bool.{and-false}
use Rattle.std.proofs.lemmas.Bool.{or_right}
use Rattle.std.proofs.lemmas.Bool.Decides.{nat_tests}
use Rattle.std.specs.List.{slice_index}
use Rattle.std.specs.Option.{option_map}
use Rattle.sf_base.proofs.Options.{option_map-some, option_map-none}
use Rattle.sf_lex.specs.declared.lexeme.Lexeme.TheVariants as f
use Rattle.sf_lex.specs.Checked.Lexing.{IsNext, begins_comment, close_length}
use Rattle.sf_lex.specs.Piece.{comment, has_close}
use Rattle.sf_lex.specs.Reading.{IsOpenComment}

-- the first `*/` of the bytes ends so many of them
pub record Closes (bytes : List ℕ) (n : ℕ) : Type 0 where
  pub inner : List ℕ
  pub rest : List ℕ
  pub spells : bytes ≡ inner ++ 42 ∷ 47 ∷ rest
  pub first : has_close (inner ++ 42 ∷ []) ≡ false
  pub counts : n ≡ length inner + 2

star_slash : (b : ℕ) (bs : List ℕ) → ((b == 42) && (slice_index bs 0 == 47)) ≡ true → (b ≡ 42) × (slice_index bs 0 ≡ 47)
star_slash b bs e = (grind (arith, nat_tests), grind (arith, nat_tests))

closes_here : (b : ℕ) (bs : List ℕ) → b ≡ 42 → slice_index bs 0 ≡ 47 → Closes (b ∷ bs) 2
closes_here b [] e h = let wrong : false ≡ true = ap (λ n. n == 47) h in absurd cc
closes_here b (c ∷ bs) e h = record { inner = []; rest = bs; spells = cc; first = refl; counts = refl }

-- a byte before `*` does not close by what was not there
has_more : (b : ℕ) (bs rest inner : List ℕ) → bs ≡ inner ++ 42 ∷ 47 ∷ rest → ((b == 42) && (slice_index bs 0 == 47)) ≡ false → ((b == 42) && (slice_index (inner ++ 42 ∷ []) 0 == 47)) ≡ false
has_more b bs rest [] e h = and-false (b == 42)
has_more b bs rest (c ∷ inner) e h = subst (λ xs. ((b == 42) && (slice_index xs 0 == 47)) ≡ false) e h

closes_later : (b : ℕ) (bs : List ℕ) (n : ℕ) → ((b == 42) && (slice_index bs 0 == 47)) ≡ false → Closes bs n → Closes (b ∷ bs) (suc n)
closes_later b bs n h k = record {
  inner = b ∷ k.inner;
  rest = k.rest;
  spells = ap (λ xs. b ∷ xs) k.spells;
  first = rw (has_more b bs k.rest k.inner k.spells h) k.first;
  counts = let e : n ≡ length k.inner + 2 = k.counts in omega arith;
}

pub close_some : (bs : List ℕ) (n : ℕ) → close_length bs ≡ Some n → Closes bs n
close_some [] n e = absurd cc
close_some (b ∷ bs) n e = go ((b == 42) && (slice_index bs 0 == 47)) refl (close_some bs)
  where
    go : (t : Bool) → ((b == 42) && (slice_index bs 0 == 47)) ≡ t → ((m : ℕ) → close_length bs ≡ Some m → Closes bs m) → Closes (b ∷ bs) n
    go true h more =
        let two : Some 2 ≡ Some n = rw h at e in
        let same : 2 ≡ n = cc in
        let at = star_slash b bs h in
        subst (λ m. Closes (b ∷ bs) m) same (closes_here b bs at.0 at.1)
    go false h more =
        let mapped_e : option_map suc (close_length bs) ≡ Some n = rw h at e in
        let parts = option_map-some suc (close_length bs) n mapped_e in
        subst (λ m. Closes (b ∷ bs) m) (sym parts.2) (closes_later b bs parts.0 h (more parts.0 parts.1))

pub close_none : (bs : List ℕ) → close_length bs ≡ None → has_close bs ≡ false
close_none [] e = refl
close_none (b ∷ bs) e = go ((b == 42) && (slice_index bs 0 == 47)) refl (close_none bs)
  where
    go : (t : Bool) → ((b == 42) && (slice_index bs 0 == 47)) ≡ t → (close_length bs ≡ None → has_close bs ≡ false) → has_close (b ∷ bs) ≡ false
    go true h more = let wrong : Some 2 ≡ None = rw h at e in absurd cc
    go false h more =
        let rest : option_map suc (close_length bs) ≡ None = rw h at e in
        rw h (more (option_map-none suc (close_length bs) rest))

-- where `*/` is, something closes
pub close_there : (inner rest : List ℕ) → has_close (inner ++ 42 ∷ 47 ∷ rest) ≡ true
close_there [] rest = refl
close_there (b ∷ inner) rest = or_right ((b == 42) && (slice_index (inner ++ 42 ∷ 47 ∷ rest) 0 == 47)) _ (close_there inner rest)

-- the bytes begin with `/*`
opens_so : (bs : List ℕ) → begins_comment bs ≡ true → bs ≡ 47 ∷ 42 ∷ drop 2 bs
opens_so [] e = absurd cc
opens_so (b ∷ []) e = let wrong : false ≡ true = sym (and-false (b == 47)) ∙ e in absurd cc
opens_so (b ∷ c ∷ bs) e =
    let first : b ≡ 47 = grind (arith, nat_tests) in
    let second : c ≡ 42 = grind (arith, nat_tests) in
    cc

pub comment_stands : (bs : List ℕ) (n : ℕ) → begins_comment bs ≡ true → close_length (drop 2 bs) ≡ Some n → IsNext (f.Space (2 + n)) bs
comment_stands bs n e h =
    let k : Closes (drop 2 bs) n = close_some (drop 2 bs) n h in
    record {
      piece = comment k.inner;
      rest = k.rest;
      spells = opens_so bs e ∙ ap (λ xs. 47 ∷ 42 ∷ xs) (k.spells ∙ sym (append_assoc k.inner (42 ∷ 47 ∷ []) k.rest));
      each = k.first;
      is = ap f.Space (counted n k.inner k.counts);
    }
  where
    counted : (n : ℕ) (inner : List ℕ) → n ≡ length inner + 2 → 2 + n ≡ length (47 ∷ 42 ∷ (inner ++ 42 ∷ 47 ∷ []))
    counted n inner e = simp length-append (omega arith)

pub comment_open : (bs : List ℕ) → begins_comment bs ≡ true → close_length (drop 2 bs) ≡ None → IsOpenComment bs
comment_open bs e h = record { inside = drop 2 bs; spells = opens_so bs e; unclosed = close_none (drop 2 bs) h }

pub close_within : (bs : List ℕ) (n : ℕ) → close_length bs ≡ Some n → n ≤ length bs
close_within bs n h =
    let k : Closes bs n = close_some bs n h in
    let counts : n ≡ length k.inner + 2 = k.counts in
    let whole : length bs ≡ length (k.inner ++ 42 ∷ 47 ∷ k.rest) = ap length k.spells in
    let parts : length (k.inner ++ 42 ∷ 47 ∷ k.rest) ≡ length k.inner + length (42 ∷ 47 ∷ k.rest) = length-append k.inner (42 ∷ 47 ∷ k.rest) in
    omega arith
