-- How the reader goes through a text, line by line, up to the first that isn't in order.
-- Ordinary: a function on the lines that are left.
use Rattle.std.specs.Prelude.{◌≡◌, ◌≢◌, ℕ, suc, ◌++◌, Result, Ok, Err, List, [], ◌∷◌}
use Rattle.sf_core.specs.Program.Syntax.{Program}
use Rattle.sf_proof.specs.declared.entry.Entry.{Entry}
use Rattle.sf_proof.specs.declared.entry.Entry.TheVariants.{Bad}
use Rattle.sf_proof.specs.declared.lined.Lined.{Lined}
use Rattle.sf_proof.specs.declared.fault.ProofFault.{ProofFault}
use Rattle.sf_proof.specs.declared.fault.ProofFault.TheVariants.{BadLine, TooLong, OutOfMemory}
use Rattle.sf_proof.specs.ProofText.{Text}
use Rattle.sf_proof.specs.Reading.{entry, tags_in, numbers_in}

-- these before those
abbrev pub lined_before : Lined → Lined → Lined
lined_before a b = record { tags = a.tags ++ b.tags; lines = a.lines ++ b.lines }

-- the same before what is read, if it is
abbrev pub read_after : Lined → Result Lined ℕ → Result Lined ℕ
read_after found (Ok more) = Ok (lined_before found more)
read_after found (Err number) = Err number

-- what is found on the line before which there are so many
abbrev pub found_in : (before : ℕ) → Entry → Lined
found_in before e = record { tags = tags_in e; lines = numbers_in (suc before) e }

-- what is read in lines after one that says this
abbrev pub read_on : (before : ℕ) → Entry → Result Lined ℕ → Result Lined ℕ
read_on before Bad more = Err (suc before)
read_on before e more = read_after (found_in before e) more

-- the tags on the lines with their numbers, or the number of the first line that isn't in order
abbrev pub reading : Program → (before : ℕ) → List Text → Result Lined ℕ
reading p k [] = Ok (record { tags = []; lines = [] })
reading p k (line ∷ more) = read_on k (entry p k line) (reading p (suc k) more)

-- the call keeps what is said on the line of that number, and refuses a line that is none
abbrev pub KeepsEntry : Result (Unit {0}) ProofFault → (old new : Lined) → (number : ℕ) → Entry → Type 0
KeepsEntry (Ok _) old new number e = (e ≢ Bad)
    × (new ≡ lined_before old (record { tags = tags_in e; lines = numbers_in number e }))
KeepsEntry (Err (BadLine n)) old new number e = (n ≡ number) × (e ≡ Bad)
KeepsEntry (Err TooLong) old new number e = ⊥
KeepsEntry (Err OutOfMemory) old new number e = Unit {0}

-- the call's result is what is read, or memory ran out
abbrev pub IsRead : Result Lined ProofFault → Result Lined ℕ → Type 0
IsRead (Ok found) r = r ≡ Ok found
IsRead (Err (BadLine n)) r = r ≡ Err n
IsRead (Err TooLong) r = ⊥
IsRead (Err OutOfMemory) r = Unit {0}
