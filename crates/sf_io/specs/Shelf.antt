-- What a shelf of files holds: bytes under names.
-- A file store as a partial map from names to bytes: Morgan and Sufrin, Specification of the UNIX filing system, 1984.
use Rattle.std.specs.Prelude.{◌≡◌, ◌≤◌, ℕ, List, ◌++◌, length, Option, None}
use Rattle.std.specs.List.{count_by}
use Rattle.std.specs.Str.{bytes_eq}

-- the bytes under each name
abbrev pub Files : Type 0
Files = List ℕ → Option (List ℕ)

-- what a shelf has that doesn't tell its map
abbrev pub untold : Option Files
untold = None

-- a list grew at its end, by at most so many bytes
abbrev pub GrewAtMost : ℕ → List ℕ → List ℕ → Type 0
GrewAtMost most before after = (piece : List ℕ) × (length piece ≤ most) × (after ≡ before ++ piece)

-- how often a name occurs in a list of failed names
unfoldable pub failures_of : List (List ℕ) → List ℕ → ℕ
failures_of failed name = count_by (λ n. bytes_eq n name) failed
