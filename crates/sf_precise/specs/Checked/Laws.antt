-- Laws of orders: an assertion has one order at most, has one where it is determined, and in order means the
-- same and is as well-formed; a function finds it; where there is none, a conjunct is never taken; what was taken
-- fixes existentials; and
-- what a type keeps truncated follows from its truncation.
-- This project's own notions; that an order keeps the meaning is commutativity and associativity of the
-- separating conjunction, as in Reynolds, "Separation Logic" (2002).
use Rattle.std.specs.Prelude.{◌≡◌, ◌↔◌, ◌⊎◌, ℕ, Bool, true, List, Some}
use Rattle.std.specs.List.{All}
use Rattle.sf_base.specs.declared.ids.Var.{Var}
use Rattle.sf_base.specs.declared.place.Place.{Place}
use Rattle.sf_base.specs.declared.value.Value.{Value}
use Rattle.sf_core.specs.declared.command.Expr.{Expr}
use Rattle.sf_core.specs.Assertions.Determined.{Determined}
use Rattle.sf_base.specs.HeapStore.{Heap, Splits}
use Rattle.sf_core.specs.Assertions.InOrder.{IsInOrder}
use Rattle.sf_core.specs.Assertions.Sat.{Sat, SatAll, value}
use Rattle.sf_core.specs.Program.Formed.{AssertionWithin, IsInBody, IsOfResource, IsParameter}
use Rattle.sf_core.specs.Program.Syntax.{Assertion, Conjuncts, Level, Procedure, Program}
use Rattle.sf_precise.specs.Annotations.{AreOrdersOf, IsFirstPlace, NeverTakenIn}
use Rattle.sf_precise.specs.Order.{IsOrderOf, IsOrderOfLevel, IsOrdering}
use Rattle.sf_precise.specs.Taken.{NeverTakenAt, Takes, known_by}

-- a level has one order at most
abbrev pub OrderIsUnique : Type 0
OrderIsUnique = (a o u : Level Expr) → IsOrderOfLevel a o → IsOrderOfLevel a u → o ≡ u

-- a level in order is determined, and is in order
abbrev pub OrderedIsDetermined : Type 0
OrderedIsDetermined = (a o : Level Expr) → IsOrderOfLevel a o → Determined a × IsInOrder o

-- a level that is in order is determined
abbrev pub InOrderIsDetermined : Type 0
InOrderIsDetermined = (o : Level Expr) → IsInOrder o → Determined o

-- a level of which a conjunct is never taken is not determined
abbrev pub NeverTakenIsUndetermined : Type 0
NeverTakenIsUndetermined = (a : Level Expr) (p : Place) → NeverTakenAt a p → ¬ Determined a

-- a determined level has its order
abbrev pub DeterminedHasOrder : Type 0
DeterminedHasOrder = (a : Level Expr) → Determined a → (o : Level Expr) × IsOrderOfLevel a o

-- each level is determined, or has a first conjunct that is never taken
abbrev pub UndeterminedHasPlace : Type 0
UndeterminedHasPlace = (a : Level Expr) → Determined a ⊎ ((q : Place) × NeverTakenAt a q)

-- annotations are all determined, or there is a first place among them at which a conjunct is never taken
abbrev pub UndeterminedAnnotationsHavePlace : Type 0
UndeterminedAnnotationsHavePlace =
    (notes : List Assertion) → All (λ a. Determined a.level) notes
    ⊎ ((q : Place) × IsFirstPlace (NeverTakenIn notes) (Some q))

-- conjuncts that were taken fix what became known by them: where all the conjuncts hold on two parts of
-- one heap, with values that are the same for
-- what is known, the values of what is known once those are taken are the same
abbrev pub TakenFixExistentials : Type 0
TakenFixExistentials =
    (known : ℕ → Bool) (cs taken rest : Conjuncts Expr) (vars : Var → Value) (here there : ℕ → Value)
    (heap one two other another : Heap) → Takes known cs taken rest
    → ((n : ℕ) → known n ≡ true → here n ≡ there n) → Splits heap one other → Splits heap two another
    → SatAll cs (value vars) here one → SatAll cs (value vars) there two
    → (n : ℕ) → known_by taken known n ≡ true → here n ≡ there n

-- a level in order means the same
abbrev pub OrderKeepsMeaning : Type 0
OrderKeepsMeaning =
    (a o : Level Expr) (vars : Var → Value) (some : ℕ → Value) (heap : Heap) → IsOrderOfLevel a o
    → Sat a (value vars) some heap ↔ Sat o (value vars) some heap

-- a well-formed assertion in order is well-formed
pub record OrderKeepsForm : Type 0 where
  -- as a pre or post
  pub contract : (p : Program) (f : Procedure) (a o : Assertion) → IsOrderOf a o
      → AssertionWithin p.fields (IsParameter p f) a → AssertionWithin p.fields (IsParameter p f) o
  -- as a loop's invariant
  pub loop : (p : Program) (f : Procedure) (a o : Assertion) → IsOrderOf a o
      → AssertionWithin p.fields (IsInBody p f) a → AssertionWithin p.fields (IsInBody p f) o
  -- as the invariant of the resource of that number, with so many variables
  pub resource : (p : Program) (number count : ℕ) (a o : Assertion) → IsOrderOf a o
      → AssertionWithin p.fields (IsOfResource number count) a
      → AssertionWithin p.fields (IsOfResource number count) o

-- that assertions are others in order follows from its truncation
abbrev pub OrdersFromTruncation : Type 0
OrdersFromTruncation =
    (notes orders : List Assertion) → ∥ AreOrdersOf notes orders ∥₁ → AreOrdersOf notes orders

-- some function does, and what it makes of a determined assertion is its order
unfoldable pub OrderingExists : Type 0
OrderingExists =
    (in_order : Assertion → Assertion) × IsOrdering in_order
    × ((a : Assertion) → Determined a.level → IsOrderOf a (in_order a))
