-- Draining: how a task that goes on alone, or one that it has made, comes to have no unit left.
-- Fuel of a task, which its events and those of its descendants use up.
use Rattle.std.specs.Prelude.{◌≡◌, ℕ, List, [], ◌∷◌, ◌++◌}
use Rattle.sf_core.specs.Machine.Config.{Frame, Path, runs}
use Rattle.sf_core.specs.Machine.Enabled.{HasEnded}
use Rattle.sf_core.specs.Machine.Step.{Event}
use Rattle.sf_core.specs.Machine.Whole.{Part, numbers, running}
use Rattle.sf_core.specs.Program.Syntax.{Program}
use Rattle.sf_part.specs.Lent.{Lends}
use Rattle.sf_part.specs.Timed.{TimedPart}
use Rattle.sf_setup.specs.Going.{GoesBy}

-- the task of the part runs, and hasn't ended
abbrev pub WouldGoOn : Part → Type 0
WouldGoOn a = (frames : List Frame) × (a.stand ≡ running frames)
    × (HasEnded a.task (runs frames) → ⊥)

-- no unit is left to the part
abbrev pub HasNone : TimedPart → Type 0
HasNone a = numbers a.part.supply ≡ []

-- Drains: by these events it comes to the task at that path, which was given so many units at its
-- start, would go on, and has none left: the task itself; the left child of a fork that it makes,
-- or one that this one makes; the right child, or one that this one makes, after all events of the
-- left one; or the task itself at a join of two children that have ended and have none left
pub data Drains (p : Program) : TimedPart → List Event → Path → ℕ → Type 0 where
  here : {a : TimedPart} {all : List Event} {path : Path} {given : ℕ} (b : TimedPart)
      → GoesBy p a all b → WouldGoOn b.part → HasNone b → path ≡ b.part.task → given ≡ b.given
      → Drains p a all path given
  in_left : {a : TimedPart} {all : List Event} {path : Path} {given : ℕ}
      (b waits one two : TimedPart) (events more : List Event) (event : Event)
      → GoesBy p a events b → Lends p event b waits one two → Drains p one more path given
      → all ≡ events ++ event ∷ more → Drains p a all path given
  in_right : {a : TimedPart} {all : List Event} {path : Path} {given : ℕ}
      (b waits one two left : TimedPart) (events first more : List Event) (event : Event)
      → GoesBy p a events b → Lends p event b waits one two → GoesBy p one first left
      → Drains p two more path given → all ≡ events ++ event ∷ (first ++ more)
      → Drains p a all path given
  at_join : {a : TimedPart} {all : List Event} {path : Path} {given : ℕ}
      (b waits one two left right : TimedPart) (events first second : List Event) (event : Event)
      → GoesBy p a events b → Lends p event b waits one two
      → GoesBy p one first left → left.part.stand ≡ running [] → HasNone left
      → GoesBy p two second right → right.part.stand ≡ running [] → HasNone right
      → path ≡ waits.part.task → given ≡ waits.given
      → all ≡ events ++ event ∷ (first ++ second) → Drains p a all path given
