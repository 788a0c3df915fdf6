-- Worked examples of numbered runs: which units tasks have, what is counted, and what comes of a run of one task.
-- Small numbers, as one would do by hand.
use Rattle.std.specs.Prelude.{◌≡◌, ℕ, List, [], ◌∷◌}
use Rattle.sf_base.specs.declared.path.Turn.TheVariants.{Left as left, Right as right}
use Rattle.sf_base.specs.declared.place.Place.{Place}
use Rattle.sf_core.specs.Machine.Config.{Config}
use Rattle.sf_core.specs.Machine.Enabled.{HasEnded}
use Rattle.sf_core.specs.Checked.Machine.Examples.{event, calls}
use Rattle.sf_core.specs.Program.Syntax.{Command, fork, Program}
use Rattle.sf_core.specs.Machine.Alone.{finished, spent, AloneFrom}
use Rattle.sf_core.specs.Machine.Numbered.{Numbered}
use Rattle.sf_core.specs.Machine.SpentSteps.{spends}
use Rattle.sf_core.specs.Machine.Supplies.{Supply, has, lent, left_in, units, CommandTakes}

-- three units from 5 on
unfoldable pub ThreeUnits : Type 0
ThreeUnits = units 5 3 ≡ 5 ∷ 6 ∷ 7 ∷ []

-- a parallel call
abbrev pub two_calls : Place → Command
two_calls here = fork here (calls 1 []) (calls 1 [])

-- of five units a fork takes the first; two of the other four are the left child's
unfoldable pub EvenFork : Type 0
EvenFork = (here : Place) → CommandTakes (event [] 1) (two_calls here) (has (units 1 5))
    (lent (has (2 ∷ 3 ∷ [])) (has (4 ∷ 5 ∷ [])))

-- of four units a fork takes the first; one of the other three is the left child's
unfoldable pub OddFork : Type 0
OddFork = (here : Place) → CommandTakes (event [] 1) (two_calls here) (has (units 1 4))
    (lent (has (2 ∷ [])) (has (3 ∷ 4 ∷ [])))

-- no fork takes another number than the first unit
unfoldable pub NoOtherNumber : Type 0
NoOtherNumber = (here : Place) (after : Supply) → CommandTakes (event [] 2) (two_calls here) (has (units 1 4)) after → ⊥

-- a task without units has no event
unfoldable pub NoUnitNoEvent : Type 0
NoUnitNoEvent = (here : Place) (after : Supply) → CommandTakes (event [] 1) (two_calls here) (has []) after → ⊥

-- what the children hand back: what the left one has left comes first
unfoldable pub HandedBack : Type 0
HandedBack = left_in (lent (has (3 ∷ [])) (has (5 ∷ []))) ≡ 3 ∷ 5 ∷ []

-- a fork begins the count of its left child anew, with the two units that it gets
unfoldable pub CountsAnew : Type 0
CountsAnew = spends (left ∷ []) [] (has (units 1 5)) (lent (has (2 ∷ 3 ∷ [])) (has (4 ∷ 5 ∷ [])))
    (record { given = 9; used = 9 }) ≡ record { given = 2; used = 0 }

-- an event of a descendant counts for the task above it, and not for its sibling
unfoldable pub CountsDescendants : Type 0
CountsDescendants = (before after : Supply)
    → (spends [] (left ∷ []) before after (record { given = 5; used = 1 }) ≡ record { given = 5; used = 2 })
    × (spends (right ∷ []) (left ∷ []) (lent (has (2 ∷ [])) (has [])) (lent (has []) (has []))
    (record { given = 0; used = 0 }) ≡ record { given = 0; used = 0 })

-- a run without events is numbered, whatever the units
unfoldable pub NoEventsAreNumbered : Type 0
NoEventsAreNumbered = (p : Program) (c : Config) (base count : ℕ) → Numbered p c base count [] c

-- an entry that has ended finishes at once, whatever its units; that counts before that it has none
unfoldable pub EndedFinishes : Type 0
EndedFinishes = (p : Program) (c : Config) (us : List ℕ) → HasEnded [] c.tasks → AloneFrom p c us (finished c)

-- an entry that hasn't ended and has no unit has used all
unfoldable pub NoUnitIsSpent : Type 0
NoUnitIsSpent = (p : Program) (c : Config) → (HasEnded [] c.tasks → ⊥) → AloneFrom p c [] spent
