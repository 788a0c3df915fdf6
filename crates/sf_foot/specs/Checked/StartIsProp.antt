-- That what a start keeps holds in one way at most, so that its type can keep the facts.
-- Ordinary: each part is an equation of tests, or an order.
use Rattle.std.specs.Prelude.{ℕ, List, nat_eq}
use Rattle.std.specs.Coded.{×_prop, Π_prop, →_prop, le_prop, Coded-set, coded_bool}
use Rattle.std.specs.List.{IsDistinct-prop, concat}
use Rattle.sf_heap.specs.Cells.{Cells}
use Rattle.sf_foot.specs.declared.vars.Vars.{Vars}
use Rattle.sf_foot.specs.Starting.{IsDisjointUnion, IsFreshFrom}

-- that parts are disjoint and make up the heap holds in one way
pub IsDisjointUnion-prop : (heap : Cells) (parts : List (List ℕ)) → IsProp (IsDisjointUnion heap parts)
IsDisjointUnion-prop heap parts =
    ×_prop (IsDistinct-prop nat_eq (concat parts)) (Π_prop (λ l. Coded-set coded_bool _ _))

-- and so does that a unit is fresh
pub IsFreshFrom-prop : (vars : Vars) (heap : Cells) (unit : ℕ) → IsProp (IsFreshFrom vars heap unit)
IsFreshFrom-prop vars heap unit = ×_prop (×_prop le_prop le_prop) (Π_prop (λ l. →_prop le_prop))
