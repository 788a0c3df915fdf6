-- The least sets as lists: in order of number, and without repeats.
-- Ordinary: a finite set as the strictly increasing list of its members.
use Rattle.std.specs.Prelude.{◌≡◌, ◌↔◌, ◌⊎◌, ℕ, ◌<◌, ◌==◌, nat_lt, Bool, true, false, ◌&&◌, ◌||◌, List, length, Some, slice_get, AllPairs, Contains}
use Rattle.sf_base.specs.declared.ids.ProcId.{ProcId}
use Rattle.sf_base.specs.declared.ids.ResId.{ResId}
use Rattle.sf_base.specs.declared.ids.Var.{Var}
use Rattle.sf_base.specs.declared.ids.Var.TheVariants.{Own, Shared}
use Rattle.sf_core.specs.Machine.HasThroughout.{HasThroughout}
use Rattle.sf_core.specs.Program.Syntax.{Program}
use Rattle.sf_calls.specs.Conditions.{Takes, Free}

-- the resource has the smaller number
abbrev pub IsEarlierResource : ResId → ResId → Type 0
IsEarlierResource r q = r.0 < q.0

-- own variables by their numbers, and after them those of resources, by the resource and then by their
-- numbers there
abbrev pub IsEarlier : Var → Var → Type 0
IsEarlier (Own m) (Own n) = m < n
IsEarlier (Own m) (Shared q j) = Unit {0}
IsEarlier (Shared r i) (Own n) = ⊥
IsEarlier (Shared r i) (Shared q j) = (r.0 < q.0) ⊎ ((r ≡ q) × (i < j))

-- the same as a test
abbrev pub is_earlier : Var → Var → Bool
is_earlier (Own m) (Own n) = nat_lt m n
is_earlier (Own m) (Shared q j) = true
is_earlier (Shared r i) (Own n) = false
is_earlier (Shared r i) (Shared q j) = nat_lt r.0 q.0 || ((r.0 == q.0) && nat_lt i j)

-- the list has exactly those, each before the later ones
pub record IsSetOf {A : Type 0} (Before : A → A → Type 0) (P : A → Type 0) (xs : List A) : Type 0 where
  pub ordered : AllPairs Before xs
  pub members : (x : A) → Contains xs x ↔ P x

-- resources
abbrev pub IsResSet : (ResId → Type 0) → List ResId → Type 0
IsResSet P rs = IsSetOf IsEarlierResource P rs

-- variables
abbrev pub IsVarSet : (Var → Type 0) → List Var → Type 0
IsVarSet P xs = IsSetOf IsEarlier P xs

-- for each procedure, by its number: what it takes, what it holds, and what is free in it
pub record Sets : Type 0 where
  pub takes : List (List ResId)
  pub holds : List (List ResId)
  pub free : List (List Var)

-- for each procedure there is one list, and it is that set
pub record IsFamily {A : Type 0} (Is : (A → Type 0) → List A → Type 0) (P : ProcId → A → Type 0) (count : ℕ)
    (sets : List (List A)) : Type 0 where
  pub each : length sets ≡ count
  pub is : (f : ProcId) (xs : List A) → slice_get sets f.0 ≡ Some xs → Is (P f) xs

-- the sets are the program's
pub record AreSetsOf (p : Program) (sets : Sets) : Type 0 where
  pub takes : IsFamily IsResSet (Takes p) (length p.procedures) sets.takes
  pub holds : IsFamily IsResSet (HasThroughout p) (length p.procedures) sets.holds
  pub free : IsFamily IsVarSet (Free p) (length p.procedures) sets.free
