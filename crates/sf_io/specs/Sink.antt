-- What a sink of bytes holds: an output that only grows, seen as the list of its bytes.
-- A file as the bytes that were appended to it: Morgan and Sufrin, Specification of the UNIX filing system, 1984.
use Rattle.std.specs.Prelude.{◌≡◌, ◌≤◌, ℕ, List, ◌++◌, length, take, Option, Some, None}

-- what is written once these bytes are added, where that is told
abbrev pub with_bytes : Option (List ℕ) → List ℕ → Option (List ℕ)
with_bytes None bytes = None
with_bytes (Some before) bytes = Some (before ++ bytes)

-- a prefix of the text was written, and nothing else
abbrev pub WrotePrefix : Option (List ℕ) → Option (List ℕ) → List ℕ → Type 0
WrotePrefix before after text = (n : ℕ) × (n ≤ length text) × (after ≡ with_bytes before (take n text))

-- what a sink has that doesn't tell what is written
abbrev pub untold : Option (List ℕ)
untold = None
