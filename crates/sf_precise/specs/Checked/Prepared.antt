-- Prepared: a conjunct that was looked at before any is taken: it can never be taken, or its branches
-- are in order.
-- What is known around a branch decides nothing about its order but that all that it takes from there is
-- known.
use Rattle.std.specs.Prelude.{◌≡◌, ℕ, Bool, true, Option, Some, None}
use Rattle.sf_base.specs.declared.place.Place.{Place}
use Rattle.sf_core.specs.declared.assertion.Operand.{Operand}
use Rattle.sf_core.specs.declared.assertion.Operand.TheVariants.{Exists}
use Rattle.sf_core.specs.declared.assertion.Test.{Test}
use Rattle.sf_core.specs.Assertions.Determined.{CanBeTaken, HasOrder, known_inside}
use Rattle.sf_core.specs.Assertions.InOrder.{IsSupplied}
use Rattle.sf_core.specs.Assertions.Occurs.{OccursIn}
use Rattle.sf_core.specs.Program.Syntax.{Conjunct, choose, Level, level}
use Rattle.sf_precise.specs.Order.{IsOrderInside, IsOrderWithin}

-- the choice with its branches in order, where both have one
abbrev pub joined : {E : Type 0} → Place → Test (Operand E) → Option (Level E) → Option (Level E)
    → Option (Conjunct E)
joined p t None that = None
joined p t (Some this) None = None
joined p t (Some this) (Some that) = Some (choose p t this that)

-- None: it can be taken from nothing that is known; else that is the conjunct, its branches in order
-- from whatever supplies it
abbrev pub IsPrepared : {E : Type 0} → Conjunct E → Option (Conjunct E) → Type 0
IsPrepared c None = (known : ℕ → Bool) → CanBeTaken known c → ⊥
IsPrepared c (Some o) = (known : ℕ → Bool) → IsSupplied known c → IsOrderWithin known c o

-- whatever the branch takes from around it is known
abbrev pub IsSuppliedLevel : {E : Type 0} → (ℕ → Bool) → Level E → Type 0
IsSuppliedLevel known a = (n : ℕ) → OccursIn a (Exists n) → known n ≡ true

-- the branch has an order from what is known around it
abbrev pub HasOrderInside : {E : Type 0} → (ℕ → Bool) → Level E → Type 0
HasOrderInside known (level made cs) = HasOrder (known_inside made known) cs

-- None: the branch has no order, whatever supplies it; else that is its order
abbrev pub IsBranch : {E : Type 0} → Level E → Option (Level E) → Type 0
IsBranch a None = (known : ℕ → Bool) → IsSuppliedLevel known a → HasOrderInside known a → ⊥
IsBranch a (Some o) = (known : ℕ → Bool) → IsSuppliedLevel known a → IsOrderInside known a o
