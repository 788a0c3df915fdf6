-- What is read line by line is what is defined: all tags, or the first line that isn't in order.
use Rattle.std.proofs.Common.{◌≡◌, ◌<◌, ◌≤◌, ◌+◌, ◌≢◌, ℕ, zero, suc, List, [], ◌∷◌, length, Some, Result, Ok, Err, refl, ap, sym, ◌∙◌, arith, append_assoc, slice_get}
use Rattle.sf_base.specs.declared.limits.TheConstants.{PROOF_BYTES}
use Rattle.sf_lines.specs.Lines.{lines}
use Rattle.sf_core.specs.Program.Syntax.{Program}
use Rattle.sf_proof.specs.declared.entry.Entry.{Entry}
use Rattle.sf_proof.specs.declared.entry.Entry.TheVariants.{Nothing, Says, Bad}
use Rattle.sf_proof.specs.declared.lined.Lined.{Lined}
use Rattle.sf_proof.specs.ProofText.{Text}
use Rattle.sf_proof.specs.Reading.{IsBadLine, IsFirstBadLine, IsLined, entry, numbers_from, tags_from}
use Rattle.sf_proof.specs.Checked.Walk.{found_in, lined_before, read_after, read_on, reading}

-- before what is before the rest
pub read-after-after : (a b : Lined) (r : Result Lined ℕ) → read_after (lined_before a b) r
    ≡ read_after a (read_after b r)
read-after-after a b (Ok c) = ap Ok (λ i. record {
  tags = append_assoc a.tags b.tags c.tags i;
  lines =
      append_assoc a.lines b.lines c.lines i;
})
read-after-after a b (Err n) = refl

-- a line in order is read before the rest
pub read_on-good : (k : ℕ) (e : Entry) (r : Result Lined ℕ) → e ≢ Bad → read_on k e r ≡ read_after (found_in k e) r
read_on-good k Nothing r h = refl
read_on-good k (Says tag) r h = refl
read_on-good k Bad r h = absurd (h refl)

-- line k from line n on of these lines is there and isn't in order
record IsBadAmong (p : Program) (n : ℕ) (ls : List Text) (k : ℕ) : Type 0 where
  line : Text
  there : slice_get ls k ≡ Some line
  bad : entry p (n + k) line ≡ Bad

-- how reading lines ends: with their tags, or with the number of the first that isn't in order
data Ends (p : Program) (n : ℕ) (ls : List Text) (r : Result Lined ℕ) : Type 0 where
  good : r ≡ Ok (record { tags = tags_from p n ls; lines = numbers_from p n ls })
      → ((k : ℕ) → IsBadAmong p n ls k → ⊥) → Ends p n ls r
  bad : (k : ℕ) → r ≡ Err (n + suc k) → IsBadAmong p n ls k → ((j : ℕ) → j < k → IsBadAmong p n ls j → ⊥)
      → Ends p n ls r

-- a line of the rest is one of the whole
later : (p : Program) (n : ℕ) (l : Text) (ls : List Text) (k : ℕ) → IsBadAmong p (suc n) ls k
    → IsBadAmong p n (l ∷ ls) (suc k)
later p n l ls k b =
    let same : suc n + k ≡ n + suc k = omega arith in
    record { line = b.line; there = b.there; bad = ap (λ m. entry p m b.line) (sym same) ∙ b.bad }

earlier : (p : Program) (n : ℕ) (l : Text) (ls : List Text) (k : ℕ) → IsBadAmong p n (l ∷ ls) (suc k)
    → IsBadAmong p (suc n) ls k
earlier p n l ls k b =
    let same : suc n + k ≡ n + suc k = omega arith in
    record { line = b.line; there = b.there; bad = ap (λ m. entry p m b.line) same ∙ b.bad }

-- the first line isn't in order where it says nothing that is
at-first : (p : Program) (n : ℕ) (l : Text) (ls : List Text) → IsBadAmong p n (l ∷ ls) 0 → entry p n l ≡ Bad
at-first p n l ls b =
    let here : l ≡ b.line = cc b.there in
    let same : n + 0 ≡ n = omega arith in
    ap (λ m. entry p m l) (sym same) ∙ ap (λ x. entry p (n + 0) x) here ∙ b.bad

ends-bad : (p : Program) (n : ℕ) (l : Text) (ls : List Text) → entry p n l ≡ Bad
    → Ends p n (l ∷ ls) (reading p n (l ∷ ls))
ends-bad p n l ls e =
    let same : n + 0 ≡ n = omega arith in
    let number : suc n ≡ n + 1 = omega arith in
    bad 0 (ap (λ x. read_on n x (reading p (suc n) ls)) e ∙ ap Err number)
    (record { line = l; there = refl; bad = ap (λ m. entry p m l) same ∙ e })
    (λ j h b. absurd (omega arith))

ends-good : (p : Program) (n : ℕ) (l : Text) (ls : List Text) → entry p n l ≢ Bad
    → Ends p (suc n) ls (reading p (suc n) ls) → Ends p n (l ∷ ls) (reading p n (l ∷ ls))
ends-good p n l ls h (good e none) =
    good (read_on-good n (entry p n l) (reading p (suc n) ls) h ∙ ap (read_after (found_in n (entry p n l))) e) clear
  where
    clear : (k : ℕ) → IsBadAmong p n (l ∷ ls) k → ⊥
    clear zero b = h (at-first p n l ls b)
    clear (suc k) b = none k (earlier p n l ls k b)
ends-good p n l ls h (bad k e b first) =
    let number : suc n + suc k ≡ n + suc (suc k) = omega arith in
    bad (suc k) (read_on-good n (entry p n l) (reading p (suc n) ls) h ∙ ap (read_after (found_in n (entry p n l))) e
    ∙ ap Err number)
    (later p n l ls k b) before
  where
    before : (j : ℕ) → j < suc k → IsBadAmong p n (l ∷ ls) j → ⊥
    before zero s c = h (at-first p n l ls c)
    before (suc j) s c = first j (omega arith) (earlier p n l ls j c)

ends : (p : Program) (n : ℕ) (ls : List Text) → Ends p n ls (reading p n ls)
ends p n [] = good refl (λ k b. absurd (cc b.there))
ends p n (l ∷ ls) = go (entry p n l) refl (ends p (suc n) ls)
  where
    go : (e : Entry) → entry p n l ≡ e → Ends p (suc n) ls (reading p (suc n) ls)
        → Ends p n (l ∷ ls) (reading p n (l ∷ ls))
    go Nothing e rest = ends-good p n l ls (λ b. absurd cc) rest
    go (Says tag) e rest = ends-good p n l ls (λ b. absurd cc) rest
    go Bad e rest = ends-bad p n l ls e

-- from the first line on the two words for a line that isn't in order are one
whole : (p : Program) (text : Text) (k : ℕ) → IsBadAmong p 0 (lines text) k → IsBadLine p text k
whole p text k b =
    let same : 0 + k ≡ k = omega arith in
    record { line = b.line; there = b.there; bad = ap (λ m. entry p m b.line) (sym same) ∙ b.bad }

among : (p : Program) (text : Text) (k : ℕ) → IsBadLine p text k → IsBadAmong p 0 (lines text) k
among p text k b =
    let same : 0 + k ≡ k = omega arith in
    record { line = b.line; there = b.there; bad = ap (λ m. entry p m b.line) same ∙ b.bad }

-- what is read of a text is what is defined
pub reads_lined : (p : Program) (text : Text) (l : Lined) → length text ≤ PROOF_BYTES → reading p 0 (lines text)
    ≡ Ok l → IsLined p text l
reads_lined p text l short e = go (ends p 0 (lines text))
  where
    go : Ends p 0 (lines text) (reading p 0 (lines text)) → IsLined p text l
    go (good r none) =
        let same : l ≡ record { tags = tags_from p 0 (lines text); lines = numbers_from p 0 (lines text) } = cc in
        record {
          short = short;
          none_bad = λ k b. none k (among p text k b);
          tags = ap (λ x. x.tags) same;
          numbers =
              ap (λ x. x.lines) same;
        }
    go (bad k r b first) = absurd cc

pub reads_bad : (p : Program) (text : Text) (n : ℕ) → length text ≤ PROOF_BYTES → reading p 0 (lines text) ≡ Err n
    → IsFirstBadLine p text n
reads_bad p text n short e = go (ends p 0 (lines text))
  where
    go : Ends p 0 (lines text) (reading p 0 (lines text)) → IsFirstBadLine p text n
    go (good r none) = absurd cc
    go (bad k r b first) =
        let same : n ≡ 0 + suc k = cc in
        record {
          short = short;
          before = k;
          is = omega arith;
          bad = whole p text k b;
          first =
              λ j h c. first j h (among p text j c);
        }
