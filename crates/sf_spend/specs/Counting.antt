-- Counting: numbered lists of events with all that they leave: a configuration, a supply, and what
-- one task was given and has used.
-- Fuel of a task that its descendants share; fork-join parallelism, Lea, "A Java Fork/Join
-- Framework" (2000).
use Rattle.std.specs.Prelude.{◌≡◌, ◌+◌, List, [], ◌∷◌, length, Some}
use Rattle.sf_core.specs.Machine.Config.{Path, Config, Task, runs, waits}
use Rattle.sf_core.specs.Machine.SpentSteps.{Spending, spends}
use Rattle.sf_core.specs.Machine.Step.{Event, Step}
use Rattle.sf_core.specs.Machine.Supplies.{Supply, has, lent, left_in, supply_at, Takes}
use Rattle.sf_core.specs.Program.Syntax.{Program}

-- CountedFrom: the events lead from the one configuration to the other, their units from the one
-- supply to the other, and what the task at the path was given and has used from the one count to
-- the other
abbrev pub CountedFrom : Program → Path → Config → Supply → Spending → List Event
    → Config → Supply → Spending → Type 0
CountedFrom p path c supply s [] d rest last = (d ≡ c) × (rest ≡ supply) × (last ≡ s)
CountedFrom p path c supply s (event ∷ events) d rest last = (between : Config) × (left : Supply)
    × Step p event c between × Takes event c supply left
    × CountedFrom p path between left (spends path event.task supply left s) events d rest last

-- what the task at the path has used, and what it and its descendants have left of the units, are
-- together what it was given, if there is a task
abbrev pub IsBalanced : Path → Supply → Spending → Type 0
IsBalanced path supply s = (own : Supply) → supply_at path supply ≡ Some own
    → s.used + length (left_in own) ≡ s.given

-- units are divided as the tree of tasks is: a task that runs has its own, and one that waits has
-- lent them to its two children
abbrev pub IsDividedAs : Task → Supply → Type 0
IsDividedAs (runs frames) (has us) = Unit {0}
IsDividedAs (runs frames) (lent one two) = ⊥
IsDividedAs (waits frames left right) (has us) = ⊥
IsDividedAs (waits frames left right) (lent one two) = IsDividedAs left one × IsDividedAs right two
