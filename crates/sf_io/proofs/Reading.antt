-- What a loop of reads has read so far.
use Rattle.std.proofs.Common.{◌≡◌, ℕ, ◌+◌, List, ◌++◌, length, Option}
use Rattle.std.specs.Io.KnownBytes.{Consumes}

-- of `most` bytes `left` are still to be read; the others are in the list after `before`, and the reader no longer has them
abbrev pub HasRead : ℕ → ℕ → List ℕ → List ℕ → Option (List ℕ) → Option (List ℕ) → Type 0
HasRead most left before after old new =
    (piece : List ℕ) × (length piece + left ≡ most) × (after ≡ before ++ piece) × Consumes old new piece
