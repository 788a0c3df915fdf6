-- Names and numbers: looking a name up, and the name of a procedure.
-- Ordinary: the first that fits, as identifiers are resolved in any language.
use Rattle.std.specs.Prelude.{◌≡◌, ◌≢◌, ℕ, ◌<◌, List, [], Option, Some, None, slice_get}
use Rattle.sf_base.specs.declared.ids.ProcId.{ProcId}
use Rattle.sf_core.specs.Program.Syntax.{Procedure, Program}

-- the answer is the number of the first of these names that is this one, and None exactly where none is
abbrev pub IsFirstNamed : List (List ℕ) → List ℕ → Option ℕ → Type 0
IsFirstNamed names name None = (k : ℕ) → slice_get names k ≢ Some name
IsFirstNamed names name (Some k) = (slice_get names k ≡ Some name)
    × ((j : ℕ) → j < k → slice_get names j ≢ Some name)

-- the name of a procedure, and nothing where there is none
abbrev pub name_in : Option Procedure → List ℕ
name_in None = []
name_in (Some f) = f.name

-- the name of the procedure of that number
abbrev pub name_at : List Procedure → ProcId → List ℕ
name_at procedures f = name_in (slice_get procedures f.0)

-- the name of a program's procedure of that number
abbrev pub name_of : Program → ProcId → List ℕ
name_of p f = name_at p.procedures f
