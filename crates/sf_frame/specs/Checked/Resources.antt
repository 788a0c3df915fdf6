-- The variables of resources, by their slots.
-- Ordinary: a table of so many rows, each with its length.
use Rattle.std.specs.Prelude.{ℕ, Bool, false, ◌==◌, ◌&&◌, ltb, List, map, length, get_or}
use Rattle.sf_base.specs.declared.ids.Var.{Var}
use Rattle.sf_base.specs.declared.ids.Var.TheVariants.{Own, Shared}
use Rattle.sf_base.specs.HeapStore.{Slot, shared, own}
use Rattle.sf_core.specs.declared.program.Resource.{Resource}

-- how many variables each of the resources has
abbrev pub counts_of : List Resource → List ℕ
counts_of rs = map (λ r. length r.variables.items) rs

-- the slot is one of the first variables of that resource
abbrev pub in_resource : (r count : ℕ) → Slot → Bool
in_resource r count (shared q i) = (q.0 == r) && ltb i count
in_resource r count (own e i) = false

-- the slot is one of the first resources'
abbrev pub in_resources : List ℕ → ℕ → Slot → Bool
in_resources counts n (shared q i) = ltb q.0 n && ltb i (get_or counts q.0 0)
in_resources counts n (own e i) = false

-- the variable of a slot, as the entry names it
abbrev pub var_at : Slot → Var
var_at (shared q i) = Shared q i
var_at (own e i) = Own i
