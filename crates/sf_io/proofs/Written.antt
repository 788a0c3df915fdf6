-- What is written by several pieces.
use Rattle.std.proofs.Common.{◌≡◌, ℕ, ◌+◌, List, ◌++◌, take, drop, Option, Some, None, refl, ap, append_assoc}
use Rattle.std.proofs.Math.Seq.{take-add}
use Rattle.sf_io.specs.Sink.{with_bytes}

-- one piece after another
pub with_bytes-with_bytes : (before : Option (List ℕ)) (first second : List ℕ) →
    with_bytes (with_bytes before first) second ≡ with_bytes before (first ++ second)
with_bytes-with_bytes None first second = refl
with_bytes-with_bytes (Some bytes) first second = ap Some (append_assoc bytes first second)

-- the next piece of a text, after its first bytes
pub with_bytes-take : (before : Option (List ℕ)) (at n : ℕ) (text : List ℕ) →
    with_bytes (with_bytes before (take at text)) (take n (drop at text)) ≡ with_bytes before (take (at + n) text)
with_bytes-take before at n text =
    rw (with_bytes-with_bytes before (take at text) (take n (drop at text)), ← take-add at n text)
