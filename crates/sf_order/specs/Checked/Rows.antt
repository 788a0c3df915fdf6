-- What the commands of a program may enter, by lists of what its procedures take; and marks for resources.
-- Ordinary: a set of numbers as its characteristic list.
use Rattle.std.specs.Prelude.{◌≡◌, ◌<◌, ◌⊎◌, ◌↔◌, ℕ, Bool, true, List, [], ◌++◌, All, Contains, Some, length, slice_get, slice_index_or}
use Rattle.std.specs.List.{flat_map}
use Rattle.sf_base.specs.declared.ids.ProcId.{ProcId}
use Rattle.sf_base.specs.declared.ids.ResId.{ResId}
use Rattle.sf_core.specs.Program.Heads.{Site, head_calls, head_regions, sites}
use Rattle.sf_core.specs.Program.Syntax.{Command, Program}
use Rattle.sf_calls.specs.Sets.{Sets}
use Rattle.sf_order.specs.Nests.{MayEnter}

-- the commands of all bodies
abbrev pub all_sites : Program → List Site
all_sites p = flat_map (λ h. sites [] h.body) p.procedures

-- what the list says that a procedure takes
abbrev pub taken_by : Sets → ProcId → List ResId
taken_by c f = slice_index_or c.takes f.0 []

-- what a command itself may enter, by these lists
abbrev pub entered_by : Sets → Command → List ResId
entered_by c command = head_regions command ++ flat_map (λ d. taken_by c d.callee) (head_calls command)

-- there is a list for each procedure that it calls
abbrev pub AreCallees : Sets → Command → Type 0
AreCallees c command = All (λ d. d.callee.0 < length c.takes) (head_calls command)

-- what it may enter is below the count
abbrev pub entered_within : ℕ → Sets → Command → Type 0
entered_within count c command = All (λ q. q.0 < count) (entered_by c command)

-- the resource is marked
abbrev pub IsMarked : List Bool → ResId → Type 0
IsMarked row q = slice_get row q.0 ≡ Some true

-- those are marked beside the ones that were
pub record Marks (before after : List Bool) (qs : List ResId) : Type 0 where
  pub size : length after ≡ length before
  pub marked : (q : ResId) → IsMarked after q ↔ (IsMarked before q ⊎ Contains qs q)

-- one of the commands is inside a region of r and may enter q
abbrev pub IsEnteredIn : Program → List Site → ResId → ResId → Type 0
IsEnteredIn p all r q = (s : Site) × Contains all s × Contains s.entered r × MayEnter p s.command q

-- the row has a mark for each resource, which says whether that is so
pub record IsRowOf (p : Program) (r : ResId) (row : List Bool) : Type 0 where
  pub size : length row ≡ length p.resources
  pub marked : (q : ResId) → IsMarked row q ↔ IsEnteredIn p (all_sites p) r q
