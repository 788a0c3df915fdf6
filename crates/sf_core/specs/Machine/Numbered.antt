-- Numbered: a run whose events have their tasks' next units as their numbers.
-- O'Hearn (2007); Brookes (2007): an interleaving, with names that no two tasks can both give.
use Rattle.std.specs.Prelude.{◌≡◌, ℕ, List, [], ◌∷◌}
use Rattle.sf_core.specs.Machine.Config.{Config}
use Rattle.sf_core.specs.Machine.Step.{Event, Step}
use Rattle.sf_core.specs.Program.Syntax.{Program}
use Rattle.sf_core.specs.Machine.Supplies.{Supply, has, units, Takes}

-- the events lead from the one configuration to the other, and their units from the one supply to the other
abbrev pub NumberedFrom : Program → Config → Supply → List Event → Config → Supply → Type 0
NumberedFrom p c supply [] d last = (d ≡ c) × (last ≡ supply)
NumberedFrom p c supply (event ∷ events) d last = (between : Config) × (rest : Supply) × Step p event c between
    × Takes event c supply rest × NumberedFrom p between rest events d last

-- Numbered: so many units from a base on are the entry's at the start
pub record Numbered (p : Program) (start : Config) (base count : ℕ) (events : List Event) (c : Config) : Type 0 where
  pub supply : Supply
  pub run : NumberedFrom p start (has (units base count)) events c supply
