-- Laws of the checker: tags prove a program or are refused, in one way, and never both; and that they prove it
-- follows from its truncation.
-- This project's own notions.
use Rattle.std.specs.Prelude.{◌≡◌, ◌⊎◌, ℕ, List}
use Rattle.sf_precise.specs.declared.arranged.Arranged.{Arranged}
use Rattle.sf_sym.specs.declared.tag.Tag.{Tag}
use Rattle.sf_rules.specs.Proving.{Proves}
use Rattle.sf_rules.specs.Setting.{Setting}
use Rattle.sf_check.specs.declared.refusal.Refusal.{Refusal}
use Rattle.sf_check.specs.Proven.{Proven}
use Rattle.sf_check.specs.Refusal.{Refused}

-- tags prove the program, or are refused at some tag or at their end
unfoldable pub ProvesOrRefused : Type 0
ProvesOrRefused =
    (d : Setting) (tags : List Tag) → Proves d tags ⊎ ((n : ℕ) × (why : Refusal) × Refused d tags n why)

-- tags that prove the program are not refused
unfoldable pub ProvesNotRefused : Type 0
ProvesNotRefused =
    (d : Setting) (tags : List Tag) (n : ℕ) (why : Refusal) → Proves d tags → ¬ Refused d tags n why

-- tags are refused at one number, and for one reason
unfoldable pub RefusedOnce : Type 0
RefusedOnce =
    (d : Setting) (tags : List Tag) (n m : ℕ) (why other : Refusal) → Refused d tags n why
    → Refused d tags m other → (n ≡ m) × (why ≡ other)

-- that tags prove a program, by some function that puts annotations in order, follows from its truncation
unfoldable pub ProvenFromTruncation : Type 0
ProvenFromTruncation = (arranged : Arranged) (tags : List Tag) → ∥ Proven arranged tags ∥₁ → Proven arranged tags
