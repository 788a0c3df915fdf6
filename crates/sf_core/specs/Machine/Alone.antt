-- Alone: what comes of a run of one task, which gives its events the units in turn.
-- The run of a sequential program: Hoare, "An Axiomatic Basis for Computer Programming" (1969).
use Rattle.std.specs.Prelude.{◌≡◌, ◌⊎◌, ℕ, List, [], ◌∷◌}
use Rattle.sf_base.specs.declared.ids.ResId.{ResId}
use Rattle.sf_base.specs.declared.value.Value.TheVariants.{Nil as nil}
use Rattle.sf_core.specs.Assertions.Sat.{IsTrueOf}
use Rattle.sf_core.specs.Machine.Config.{Config, evaluate}
use Rattle.sf_core.specs.Machine.Enabled.{HasEnded}
use Rattle.sf_core.specs.Machine.Step.{Event, Step}
use Rattle.sf_core.specs.Program.Syntax.{Program}
use Rattle.sf_core.specs.Machine.SpentWaits.{IsAtRegion}
use Rattle.sf_core.specs.Machine.Supplies.{units}

-- what comes of it: it ends in that configuration, it has used all its units, or it waits at a region of that
-- resource
pub data Outcome : Type 0 where
  finished : Config → Outcome
  spent : Outcome
  waiting : ResId → Outcome

-- the task is at a region of the resource, and the condition is false
abbrev pub WaitsAlone : Config → ResId → Type 0
WaitsAlone c r = (at : IsAtRegion c [] r)
    × (IsTrueOf (evaluate at.frame.slots c.common.store) at.test → ⊥)

-- the event of the entry with that number, where its cell stands too
abbrev pub event_alone : ℕ → Event
event_alone number = record { task = []; number = number; at = number; fields = λ f. nil }

-- what comes of the task with those units left: that it ended counts before that none is left, and that before a wait
abbrev pub AloneFrom : Program → Config → List ℕ → Outcome → Type 0
AloneFrom p c [] out = (HasEnded [] c.tasks × (out ≡ finished c))
    ⊎ ((HasEnded [] c.tasks → ⊥) × (out ≡ spent))
AloneFrom p c (u ∷ us) out = (HasEnded [] c.tasks × (out ≡ finished c))
    ⊎ ((HasEnded [] c.tasks → ⊥) × (((r : ResId) × WaitsAlone c r × (out ≡ waiting r))
    ⊎ ((between : Config) × Step p (event_alone u) c between × AloneFrom p between us out)))

-- Alone: from a start, with so many units from a base on
abbrev pub Alone : Program → (start : Config) → (base count : ℕ) → Outcome → Type 0
Alone p start base count out = AloneFrom p start (units base count) out
