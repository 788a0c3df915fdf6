-- Each text reads in exactly one way.
use Rattle.std.proofs.Common.{◌≡◌, ◌<◌, ◌≤◌, ℕ, suc, length, Result, Ok, Err, refl, ap, sym, ◌∙◌, arith, inl, inr, ◌⊎◌}
use Rattle.std.proofs.lemmas.Bool.{cases_lt}
use Rattle.sf_base.specs.Results.{Decides}
use Rattle.sf_base.specs.declared.limits.TheConstants.{PROOF_BYTES}
use Rattle.sf_lines.specs.Lines.{lines}
use Rattle.sf_core.specs.Program.Syntax.{Program}
use Rattle.sf_proof.specs.declared.lined.Lined.{Lined}
use Rattle.sf_proof.specs.declared.fault.ProofFault.{ProofFault}
use Rattle.sf_proof.specs.declared.fault.ProofFault.TheVariants.{BadLine, TooLong, OutOfMemory}
use Rattle.sf_proof.specs.Checked.Walk.{IsRead, reading}
use Rattle.sf_proof.specs.Checked.Laws.{EachTextReadsOnce}
use Rattle.sf_proof.specs.ProofText.{Text}
use Rattle.sf_proof.specs.Reading.{IsFault, IsFirstBadLine, IsLined}
use Rattle.sf_proof.proofs.Walking.{reads_bad, reads_lined}

lined-one : (p : Program) (text : Text) (l m : Lined) → IsLined p text l → IsLined p text m → l ≡ m
lined-one p text l m a b = λ i. record { tags = (a.tags ∙ sym b.tags) i; lines = (a.numbers ∙ sym b.numbers) i }

-- the first of them is one
first-one : (p : Program) (text : Text) (m n : ℕ) → IsFirstBadLine p text m → IsFirstBadLine p text n → m ≡ n
first-one p text m n a b = go (cases_lt a.before b.before)
  where
    go : ((a.before < b.before) ⊎ (b.before ≤ a.before)) → m ≡ n
    go (inl h) = absurd (b.first a.before h a.bad)
    go (inr h) = and (cases_lt b.before a.before)
      where
        and : ((b.before < a.before) ⊎ (a.before ≤ b.before)) → m ≡ n
        and (inl g) = absurd (a.first b.before g b.bad)
        and (inr g) =
            let e : m ≡ suc a.before = a.is in
            let f : n ≡ suc b.before = b.is in
            omega arith

faults-one : (p : Program) (text : Text) (e f : ProofFault) → IsFault p text e → IsFault p text f → e ≡ f
faults-one p text (BadLine m) (BadLine n) a b = ap BadLine (first-one p text m n a b)
faults-one p text (BadLine m) TooLong a b = let short : length text ≤ PROOF_BYTES = a.short in absurd (omega arith)
faults-one p text TooLong (BadLine n) a b = let short : length text ≤ PROOF_BYTES = b.short in absurd (omega arith)
faults-one p text TooLong TooLong a b = refl
faults-one p text OutOfMemory f a b = absurd a
faults-one p text (BadLine m) OutOfMemory a b = absurd b
faults-one p text TooLong OutOfMemory a b = absurd b

lined-no_fault : (p : Program) (text : Text) (l : Lined) (e : ProofFault) → IsLined p text l → IsFault p text e → ⊥
lined-no_fault p text l (BadLine n) a b = a.none_bad b.before b.bad
lined-no_fault p text l TooLong a b = let short : length text ≤ PROOF_BYTES = a.short in absurd (omega arith)
lined-no_fault p text l OutOfMemory a b = b

some-answer : (p : Program) (text : Text) → ((l : Lined) × IsLined p text l) ⊎ ((e : ProofFault) × IsFault p text e)
some-answer p text = go (cases_lt PROOF_BYTES (length text))
  where
    read : length text ≤ PROOF_BYTES → (r : Result Lined ℕ) → reading p 0 (lines text) ≡ r
        → ((l : Lined) × IsLined p text l) ⊎ ((e : ProofFault) × IsFault p text e)
    read h (Ok l) e = inl (l, reads_lined p text l h e)
    read h (Err n) e = inr (BadLine n, reads_bad p text n h e)

    go : ((PROOF_BYTES < length text) ⊎ (length text ≤ PROOF_BYTES)) → ((l : Lined) × IsLined p text l)
        ⊎ ((e : ProofFault) × IsFault p text e)
    go (inl h) = inr (TooLong, h)
    go (inr h) = read h (reading p 0 (lines text)) refl

pub each_text_reads_once : EachTextReadsOnce
unfolding EachTextReadsOnce
each_text_reads_once p text = record {
  some = some-answer p text;
  lined = lined-one p text;
  faults = faults-one p text;
  apart = lined-no_fault p text;
}

-- what is read within the limit is decided
pub decides-read : (p : Program) (text : Text) (result : Result Lined ProofFault) → length text ≤ PROOF_BYTES
    → IsRead result (reading p 0 (lines text)) → Decides result (λ l. l) (IsLined p text) (IsFault p text) OutOfMemory
decides-read p text (Ok l) h r =
    let is : IsLined p text l = reads_lined p text l h r in
    record {
      found = is;
      refused = tt;
      only_found = λ m a. lined-one p text l m is a;
      only_refused = λ f a. lined-no_fault p text l f is a;
    }
decides-read p text (Err (BadLine n)) h r =
    let is : IsFault p text (BadLine n) = reads_bad p text n h r in
    record {
      found = tt;
      refused = inr is;
      only_found = λ m a. absurd (lined-no_fault p text m (BadLine n) a is);
      only_refused = λ f a. inl (faults-one p text (BadLine n) f is a);
    }
decides-read p text (Err TooLong) h r = absurd r
decides-read p text (Err OutOfMemory) h r = record {
  found = tt;
  refused = inl refl;
  only_found = λ m a. refl;
  only_refused = λ f a. inr refl;
}
