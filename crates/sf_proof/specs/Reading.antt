-- How the text of a proof reads: the tags on its lines with the numbers of these lines, or why it
-- doesn't.
-- Ordinary: a format of lines, read leniently: "be liberal in what you accept", Postel, RFC 761
-- (1980).
use Rattle.std.specs.Prelude.{◌≡◌, ℕ, zero, suc, ◌<◌, ◌≤◌, ◌++◌, Bool, false, if◌then◌else◌, Option, Some, None, List, [], ◌∷◌, codes, length, slice_get}
use Rattle.std.specs.Str.{bytes_eq}
use Rattle.sf_base.specs.declared.limits.TheConstants.{PROOF_BYTES}
use Rattle.sf_lines.specs.Lines.{lines, words}
use Rattle.sf_core.specs.Program.Syntax.{Program}
use Rattle.sf_sym.specs.declared.tag.Tag.{Tag}
use Rattle.sf_proof.specs.declared.entry.Entry.{Entry}
use Rattle.sf_proof.specs.declared.entry.Entry.TheVariants.{Nothing, Says, Bad}
use Rattle.sf_proof.specs.declared.lined.Lined.{Lined}
use Rattle.sf_proof.specs.declared.fault.ProofFault.{ProofFault}
use Rattle.sf_proof.specs.declared.fault.ProofFault.TheVariants.{BadLine, TooLong, OutOfMemory}
use Rattle.sf_proof.specs.ProofText.{Text}
use Rattle.sf_proof.specs.Words.{tag_of}

-- the words of the first line are the verdict's
abbrev pub is_verdict : List Text → Bool
is_verdict [] = false
is_verdict (word ∷ []) = bytes_eq word (codes "accepted")
is_verdict (word ∷ x ∷ more) = false

-- what a line says whose words say this tag, if one
abbrev pub entry_of : Option Tag → Entry
entry_of None = Bad
entry_of (Some tag) = Says tag

-- what a line after the first says: an empty one nothing, another one a tag
abbrev pub entry_after : Program → List Text → Entry
entry_after p [] = Nothing
entry_after p (word ∷ more) = entry_of (tag_of p (word ∷ more))

-- what a line says before which there are so many: the first says the verdict
abbrev pub entry : Program → (before : ℕ) → Text → Entry
entry p zero line = if is_verdict (words line) then Nothing else Bad
entry p (suc k) line = entry_after p (words line)

-- the tag that is said
abbrev pub tags_in : Entry → List Tag
tags_in (Says tag) = tag ∷ []
tags_in _ = []

-- the number of the line, where a tag is said there
abbrev pub numbers_in : (number : ℕ) → Entry → List ℕ
numbers_in number (Says tag) = number ∷ []
numbers_in number _ = []

-- the tags on lines before which there are so many
abbrev pub tags_from : Program → (before : ℕ) → List Text → List Tag
tags_from p k [] = []
tags_from p k (line ∷ more) = tags_in (entry p k line) ++ tags_from p (suc k) more

-- the numbers of the lines of these tags; the first line of a text is number 1
abbrev pub numbers_from : Program → (before : ℕ) → List Text → List ℕ
numbers_from p k [] = []
numbers_from p k (line ∷ more) = numbers_in (suc k) (entry p k line) ++ numbers_from p (suc k) more

-- the line before which there are so many is there, and is none of a proof's text
pub record IsBadLine (p : Program) (text : Text) (before : ℕ) : Type 0 where
  pub line : Text
  pub there : slice_get (lines text) before ≡ Some line
  pub bad : entry p before line ≡ Bad

-- the text is within its limit, each line is in order, and these are their tags and the numbers of
-- their lines
pub record IsLined (p : Program) (text : Text) (lined : Lined) : Type 0 where
  pub short : length text ≤ PROOF_BYTES
  pub none_bad : (k : ℕ) → IsBadLine p text k → ⊥
  pub tags : lined.tags ≡ tags_from p 0 (lines text)
  pub numbers : lined.lines ≡ numbers_from p 0 (lines text)

-- the text is within its limit, and the first line that isn't in order has this number
pub record IsFirstBadLine (p : Program) (text : Text) (number : ℕ) : Type 0 where
  pub short : length text ≤ PROOF_BYTES
  pub before : ℕ
  pub is : number ≡ suc before
  pub bad : IsBadLine p text before
  pub first : (k : ℕ) → k < before → IsBadLine p text k → ⊥

-- the fault of a text: that it is too long comes before all others
abbrev pub IsFault : Program → Text → ProofFault → Type 0
IsFault p text (BadLine number) = IsFirstBadLine p text number
IsFault p text TooLong = PROOF_BYTES < length text
IsFault p text OutOfMemory = ⊥
