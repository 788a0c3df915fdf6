-- Joining: when a task takes back what its two children hold, and that it can go on with that.
-- Fork-join parallelism, Lea, "A Java Fork/Join Framework" (2000); O'Hearn (2007) for what the
-- parallel rule puts together again.
use Rattle.std.specs.Prelude.{◌≡◌, ◌≢◌, ◌≤◌, ◌+◌, ℕ, max, [], ◌++◌, length, None, Contains}
use Rattle.sf_base.specs.declared.limits.TheConstants.{STEPS}
use Rattle.sf_base.specs.HeapStore.{own}
use Rattle.sf_core.specs.Machine.Whole.{running, Part, numbers}
use Rattle.sf_core.specs.Program.Syntax.{Program}
use Rattle.sf_part.specs.Keeps.{IsWaiting}
use Rattle.sf_part.specs.Of.{FramesAreOf, frames_in}
use Rattle.sf_part.specs.Steps.{HasChildren}
use Rattle.sf_part.specs.Timed.{TimedPart}

-- MayJoin: the task waits for the two, which have ended and have nothing in common with it or with
-- each other, and a unit is left to one of them for the event
pub record MayJoin (a one two : TimedPart) : Type 0 where
  pub waits : IsWaiting a.part.stand
  pub left_ended : one.part.stand ≡ running []
  pub right_ended : two.part.stand ≡ running []
  -- the part with all that its children have
  pub all : Part
  pub children : HasChildren a.part one.part two.part all
  -- no unit is in both children's supplies, and none is a location of the three, or the number of
  -- a slot of them
  pub units : (number : ℕ) → Contains (numbers one.part.supply) number
      → Contains (numbers two.part.supply) number → ⊥
  pub unmade : (number : ℕ) → Contains (numbers one.part.supply ++ numbers two.part.supply) number
      → (all.heap number ≡ None) × ((index : ℕ) → all.store (own number index) ≡ None)
  pub unit : numbers one.part.supply ++ numbers two.part.supply ≢ []
  -- they keep logs where it does
  pub left_keeps : one.keeps ≡ a.keeps
  pub right_keeps : two.keeps ≡ a.keeps
  -- the clock that it leaves has room for the units that are left
  pub time : max a.clock (max one.clock two.clock)
      + (length (numbers one.part.supply) + length (numbers two.part.supply)) ≤ STEPS

-- GoesOnIn: the frames of a task that waits are the program's in what its part has together with
-- what its children's have
abbrev pub GoesOnIn : Program → (a one two : Part) → Type 0
GoesOnIn p a one two = (all : Part) → HasChildren a one two all
    → FramesAreOf p all.store (frames_in a.stand)
