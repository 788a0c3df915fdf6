-- Nests: which resource may be entered while which is held, as the text of the program says.
-- The order of locks: Coffman, Elphick and Shoshani, "System Deadlocks" (1971), carried along calls.
use Rattle.std.specs.Prelude.{◌≡◌, ◌<◌, ◌⊎◌, List, Contains}
use Rattle.sf_base.specs.declared.ids.ProcId.{ProcId}
use Rattle.sf_base.specs.declared.ids.ResId.{ResId}
use Rattle.sf_core.specs.Program.Heads.{Somewhere, head_regions}
use Rattle.sf_core.specs.Program.Syntax.{Command, Program}
use Rattle.sf_calls.specs.Conditions.{Has, Takes}
use Rattle.sf_calls.specs.Outside.{Makes}
use Rattle.sf_calls.specs.Sets.{IsSetOf}

-- the command is a region of s, or calls a procedure that takes s
abbrev pub MayEnter : Program → Command → ResId → Type 0
MayEnter p c s = Contains (head_regions c) s ⊎ Makes c (λ d. Takes p d.callee s)

-- Nests: in some body, inside a region of r, there is a region of s, or a call of a procedure that takes s
abbrev pub Nests : Program → ResId → ResId → Type 0
Nests p r s =
    (f : ProcId) × Has p (λ h. Somewhere (λ at. Contains at.entered r × MayEnter p at.command s) h.body) f

-- file order of pairs: by the first resource, and then by the second
abbrev pub IsEarlierPair : ResId × ResId → ResId × ResId → Type 0
IsEarlierPair d e = (d.0.0 < e.0.0) ⊎ ((d.0 ≡ e.0) × (d.1.0 < e.1.0))

-- the list has exactly the pairs of which the first nests the second, in file order
abbrev pub ArePairsOf : Program → List (ResId × ResId) → Type 0
ArePairsOf p pairs = IsSetOf IsEarlierPair (λ e. Nests p e.0 e.1) pairs

-- the relation that a list of pairs is
abbrev pub IsPair : List (ResId × ResId) → ResId → ResId → Type 0
IsPair pairs r s = Contains pairs (r, s)
