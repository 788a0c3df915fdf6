-- Visited: a test for each procedure, by its number, and the callers of each procedure, as lists.
-- Ordinary: a set of numbers as its characteristic list, a graph as its lists of predecessors.
use Rattle.std.specs.Prelude.{◌≡◌, ◌≢◌, ◌⊎◌, ℕ, ◌+◌, Bool, true, false, not, List, [], ◌∷◌, length, count_by, cond, ◌↔◌, Option, Some, slice_get, slice_index_or, AllPairs, Contains, Vec}
use Rattle.std.specs.List.{AllZip}
use Rattle.std.specs.declared.alloc.Global.{Global}
use Rattle.sf_base.specs.declared.ids.ProcId.{ProcId}
use Rattle.sf_base.specs.declared.ids.ResId.{ResId}
use Rattle.sf_core.specs.Program.Syntax.{Program}
use Rattle.sf_calls.specs.Conditions.{Calls}

-- the procedure is visited
abbrev pub IsVisited : List Bool → ProcId → Type 0
IsVisited visited f = slice_get visited f.0 ≡ Some true

-- f is among the callers of g
abbrev pub IsCaller : List (Vec ProcId Global) → ProcId → ProcId → Type 0
IsCaller callers f g = (fs : Vec ProcId Global) × (slice_get callers g.0 ≡ Some fs) × Contains fs.items f

-- the callers are those of the program, outside the regions of the resource that is left out
pub record AreCallers (p : Program) (but : Option ResId) (callers : List (Vec ProcId Global)) : Type 0 where
  pub size : length callers ≡ length p.procedures
  pub are : (f g : ProcId) → IsCaller callers f g ↔ Calls p but f g

-- for each procedure the row tells whether it is one of those
pub record IsRow (count : ℕ) (P : ProcId → Type 0) (row : List Bool) : Type 0 where
  pub size : length row ≡ count
  pub visited : (f : ProcId) → IsVisited row f ↔ P f

-- for each key its row
abbrev pub AreRows : {A : Type 0} → ℕ → (ProcId → A → Type 0) → List A → List (Vec Bool Global) → Type 0
AreRows count P keys rows = AllZip (λ x row. IsRow count (λ f. P f x) row.items) keys rows

-- the keys in whose rows the procedure of that number is visited
abbrev pub chosen : {A : Type 0} → ℕ → List A → List (Vec Bool Global) → List A
chosen f [] rows = []
chosen f (x ∷ xs) [] = []
chosen f (x ∷ xs) (row ∷ rows) =
    cond (slice_index_or row.items f false) (x ∷ chosen f xs rows) (chosen f xs rows)

-- how many are not visited
abbrev pub unvisited : List Bool → ℕ
unvisited visited = count_by not visited

-- each procedure is there once
abbrev pub EachOnce : List ProcId → Type 0
EachOnce fs = AllPairs (λ f g. f ≢ g) fs

-- the procedures fs are visited beside those that were, and those that were not yet are queued
pub record VisitsMore (fs : List ProcId) (before : List Bool) (queue : List ProcId) (after : List Bool)
    (longer : List ProcId) : Type 0 where
  pub size : length after ≡ length before
  pub kept : (f : ProcId) → IsVisited before f → IsVisited after f
  pub all : (f : ProcId) → Contains fs f → IsVisited after f
  pub only : (f : ProcId) → IsVisited after f → IsVisited before f ⊎ (Contains fs f × Contains longer f)
  pub queued : (f : ProcId) → Contains queue f → Contains longer f
  pub known : (f : ProcId) → Contains longer f → Contains queue f ⊎ IsVisited after f
  pub once : ((f : ProcId) → Contains queue f → IsVisited before f) → EachOnce queue → EachOnce longer
  pub spent : length longer + unvisited after ≡ length queue + unvisited before
