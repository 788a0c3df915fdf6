-- Reach: what a list of events leads to, one step after the other.
-- O'Hearn (2007); Brookes (2007): every interleaving is one such list.
use Rattle.std.specs.Prelude.{◌≡◌, List, [], ◌∷◌}
use Rattle.sf_core.specs.Machine.Config.{Config}
use Rattle.sf_core.specs.Machine.Step.{Event, Step}
use Rattle.sf_core.specs.Program.Syntax.{Program}

-- Reach: the events, one after the other, lead from the one configuration to the other
abbrev pub Reach : Program → Config → List Event → Config → Type 0
Reach p c [] d = d ≡ c
Reach p c (event ∷ events) d = (between : Config) × Step p event c between × Reach p between events d
