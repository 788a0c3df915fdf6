-- Starts: the variables and cells with which a procedure starts, and which of the cells each assertion has.
-- O'Hearn (2007); Brookes (2007): the state at the start of a program with resources.
use Rattle.std.specs.Prelude.{◌≡◌, ◌⊎◌, ℕ, ◌+◌, ◌<◌, ◌≤◌, ◌^◌, ◌==◌, ◌&&◌, Bool, cond, true, false, nat_lt, nat_eq, List, [], ◌∷◌, Some, None, length, map, slice_get, slice_index_or}
use Rattle.std.specs.FinMap.{contains_key, get}
use Rattle.std.specs.List.{AllZip, IsDistinct, concat}
use Rattle.std.specs.Set.{is_member}
use Rattle.sf_base.specs.declared.ids.ProcId.{ProcId}
use Rattle.sf_base.specs.declared.ids.Var.{Var}
use Rattle.sf_base.specs.declared.value.Value.TheVariants.{Nil as nil, Loc as loc}
use Rattle.sf_base.specs.HeapStore.{Store, own, shared}
use Rattle.sf_core.specs.Machine.Config.{Config}
use Rattle.sf_core.specs.Machine.Start.{Beginning, settled, fresh, first_count, Start}
use Rattle.sf_core.specs.Program.Init.{IsInitAmong}
use Rattle.sf_core.specs.Program.Syntax.{Assertion, Procedure, Program}
use Rattle.sf_heap.specs.Cells.{Cells, FieldValues, heap_of}
use Rattle.sf_foot.specs.declared.vars.Vars.{Vars}
use Rattle.sf_foot.specs.Footprint.{IsFootprint}
use Rattle.sf_foot.specs.Variables.{value_of, values_or_none}

-- the store in which a procedure starts: its references and values and the variables of the resources as given, its
-- locals nil, and nil too those of the procedure that sets the resources up, where that runs first
abbrev pub store_of : Beginning → Procedure → Vars → Store
store_of b g vars (own event i) =
    cond ((event == 0) && nat_lt i (first_count b g)) (Some (slice_index_or vars.own.items i nil)) None
store_of b g vars (shared r i) = slice_get (values_or_none (slice_get vars.shared.items r.0)) i

-- a run begins so where it is fresh, and where it isn't: fresh it begins with the program's procedure that sets the
-- resources up
abbrev pub IsBeginning : Program → (is_fresh : Bool) → Beginning → Type 0
IsBeginning p true (fresh n h) =
    (slice_get p.procedures n.0 ≡ Some h) × IsInitAmong (map (λ g. g.name) p.procedures) (Some n)
IsBeginning p true settled = ⊥
IsBeginning p false (fresh n h) = ⊥
IsBeginning p false settled = Unit {0}

-- each cell has a value for each of so many fields
abbrev pub HasWidth : ℕ → Cells → Type 0
HasWidth count heap = (location : ℕ) (values : FieldValues) → get heap location ≡ Some values
    → length values ≡ count

-- each cell is at a location of exactly one of the parts, and each location of a part has a cell
abbrev pub IsDisjointUnion : Cells → List (List ℕ) → Type 0
IsDisjointUnion heap parts = IsDistinct nat_eq (concat parts)
    × ((location : ℕ) → contains_key heap location ≡ is_member nat_eq (concat parts) location)

-- the assertions that hold of parts of the heap at a start: the precondition, and then, unless it is fresh, each
-- resource's invariant in file order
abbrev pub assertions_of : Program → Procedure → (is_fresh : Bool) → List Assertion
assertions_of p g is_fresh = g.pre ∷ cond is_fresh [] (map (λ r. r.invariant) p.resources)

-- the parts are the footprints of these assertions, in order
abbrev pub AreFootprints : Program → Procedure → (is_fresh : Bool) → Vars → Cells → List (List ℕ) → Type 0
AreFootprints p g is_fresh vars heap parts = AllZip
    (λ a ls. IsFootprint a.level (value_of vars) (heap_of heap) ls) (assertions_of p g is_fresh) parts

-- the procedure starts with these variables and cells, fresh or not, and these are its parts of them
pub record StartsWith (p : Program) (f : ProcId) (is_fresh : Bool) (vars : Vars) (heap : Cells)
    (parts : List (List ℕ)) : Type 0 where
  pub procedure : Procedure
  pub beginning : Beginning
  pub config : Config
  pub there : slice_get p.procedures f.0 ≡ Some procedure
  pub parameters : length vars.own.items ≡ procedure.references + procedure.values
  pub kind : IsBeginning p is_fresh beginning
  pub starts : Start p f (store_of beginning procedure vars) (heap_of heap) config
  pub begins : starts.beginning ≡ beginning
  -- each cell has a value for each field of the program
  pub width : HasWidth (length p.fields) heap
  pub footprints : AreFootprints p procedure is_fresh vars heap parts
  pub union : IsDisjointUnion heap parts

-- the location is that of a cell, or the value of a variable, or in a field
abbrev pub IsMentioned : Vars → Cells → ℕ → Type 0
IsMentioned vars heap location = (contains_key heap location ≡ true)
    ⊎ (((x : Var) × (value_of vars x ≡ loc location))
    ⊎ ((at : ℕ) × (here : FieldValues) × (field : ℕ) × (get heap at ≡ Some here)
    × (slice_index_or here field nil ≡ loc location)))

-- each location that is mentioned is below the unit, which is from 1 to 2^62
abbrev pub IsFreshFrom : Vars → Cells → ℕ → Type 0
IsFreshFrom vars heap unit = ((0 < unit) × (unit ≤ 2 ^ 62))
    × ((location : ℕ) → IsMentioned vars heap location → location < unit)

-- the least unit from which on no location is mentioned; 1 where none is
abbrev pub IsFirstUnit : Vars → Cells → ℕ → Type 0
IsFirstUnit vars heap unit = IsFreshFrom vars heap unit
    × ((unit ≡ 1) ⊎ ((location : ℕ) × IsMentioned vars heap location × (unit ≡ location + 1)))
