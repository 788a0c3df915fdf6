-- What a search along calls for a parallel call has done.
-- Ordinary: depth-first search; Tarjan, "Depth-first search and linear graph algorithms" (1972).
use Rattle.std.specs.Prelude.{◌⊎◌, Bool, true, false, List, [], ◌∷◌, Option, Some, None}
use Rattle.sf_base.specs.declared.ids.ProcId.{ProcId}
use Rattle.sf_core.specs.Program.Heads.{Site}
use Rattle.sf_core.specs.Program.Syntax.{Command, fork}
use Rattle.sf_calls.specs.Checked.Tests.{callees_in}
use Rattle.sf_calls.specs.Checked.Visited.{VisitsMore}

-- the command is a parallel call
abbrev pub IsFork : Command → Type 0
IsFork (fork place c d) = Unit {0}
IsFork _ = ⊥

-- a procedure, if there is one, as a list
abbrev pub listed : Option ProcId → List ProcId
listed None = []
listed (Some g) = g ∷ []

-- one of the sites is one
abbrev pub HasFork : List Site → Type 0
HasFork [] = ⊥
HasFork (s ∷ ss) = IsFork s.command ⊎ HasFork ss

-- there is a parallel call; or there is none, and what is called at the sites is visited beside
-- what was
abbrev pub VisitsOrForks : (forks : Bool) → List Site → (before : List Bool) (queue : List ProcId)
    (after : List Bool) (longer : List ProcId) → Type 0
VisitsOrForks true ss before queue after longer = HasFork ss
VisitsOrForks false ss before queue after longer =
    (HasFork ss → ⊥) × VisitsMore (callees_in None ss) before queue after longer
