-- Entry: when a task may take a content in and enter a region with it.
-- Hoare, "Towards a Theory of Parallel Programming" (1972); O'Hearn (2007) for what crosses.
use Rattle.std.specs.Prelude.{◌≡◌, ◌≢◌, ◌≤◌, ◌+◌, ℕ, false, [], length, max, None, Contains}
use Rattle.sf_base.specs.declared.limits.TheConstants.{STEPS}
use Rattle.sf_base.specs.HeapStore.{Apart, Slot, own}
use Rattle.sf_core.specs.declared.assertion.Test.{Test}
use Rattle.sf_core.specs.declared.command.Expr.{Expr}
use Rattle.sf_core.specs.Assertions.Sat.{IsTrueOf}
use Rattle.sf_core.specs.Machine.Config.{Fixed, evaluate}
use Rattle.sf_core.specs.Machine.Whole.{Part, Content, numbers}
use Rattle.sf_frame.specs.Stores.{together}
use Rattle.sf_part.specs.Guards.{StandsAt}
use Rattle.sf_part.specs.Timed.{TimedContent, TimedPart}

-- the part and the content have no cell and no slot in common, and no unit of the part is a
-- location of the content, or the number of a slot of it
pub record AreApart (a : Part) (k : Content) : Type 0 where
  pub heap : (location : ℕ) → Apart (a.heap location) (k.heap location)
  pub store : (slot : Slot) → Apart (a.store slot) (k.store slot)
  pub units : (number : ℕ) → Contains (numbers a.supply) number
      → (k.heap number ≡ None) × ((index : ℕ) → k.store (own number index) ≡ None)

-- the task stands at a region of the content's resource, whose condition is true of it
abbrev pub IsOpen : Part → Content → Type 0
IsOpen a k = (f : Fixed) × (test : Test Expr) × StandsAt a k.resource f test
    × IsTrueOf (evaluate f.slots (together a.store k.store)) test

-- MayEnter: the task may enter that region, which it isn't inside of yet, with a unit for the event
pub record MayEnter (a : TimedPart) (k : TimedContent) : Type 0 where
  pub opens : IsOpen a.part k.content
  pub outside : a.part.holds k.content.resource ≡ false
  pub unit : numbers a.part.supply ≢ []
  pub apart : AreApart a.part k.content
  -- the clock that it leaves has room for the units that are left
  pub time : max a.clock k.stamp + length (numbers a.part.supply) ≤ STEPS
