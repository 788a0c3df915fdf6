-- Where the annotations of each procedure are among all annotations of a program.
-- Ordinary: the offsets of lists that are put one after the other.
use Rattle.std.specs.Prelude.{ℕ, ◌+◌, List, [], ◌∷◌, length}
use Rattle.sf_core.specs.Program.Syntax.{Procedure}
use Rattle.sf_precise.specs.Annotations.{notes_of}

-- where those of each procedure end, where the first ones start at that number
abbrev pub ends_from : ℕ → List Procedure → List ℕ
ends_from k [] = []
ends_from k (h ∷ hs) = (k + length (notes_of h)) ∷ ends_from (k + length (notes_of h)) hs

-- where those of each procedure start, and after the last ones where they end
abbrev pub starts_from : ℕ → List Procedure → List ℕ
starts_from k hs = k ∷ ends_from k hs
