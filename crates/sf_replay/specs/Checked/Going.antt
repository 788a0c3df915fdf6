-- What is kept of the events that were made.
-- Ordinary: a list, cut in two.
use Rattle.std.specs.Prelude.{◌≡◌, ◌++◌, ℕ, List, length}
use Rattle.sf_core.specs.Machine.Config.{Config}
use Rattle.sf_core.specs.Program.Syntax.{Program}
use Rattle.sf_machine.specs.Accessing.{thing_of}
use Rattle.sf_replay.specs.declared.found.Found.{Found}
use Rattle.sf_replay.specs.declared.found.Found.TheVariants.{Clean, Absent, Race}
use Rattle.sf_replay.specs.declared.schedule.Scheduled.{Scheduled}
use Rattle.sf_replay.specs.FirstBad.{IsFirstAbsent, IsFirstRace}
use Rattle.sf_replay.specs.Replays.{LeadsSafely}
use Rattle.sf_replay.specs.ScheduleText.{events_of}

-- that is what is found of a configuration after so many events
abbrev pub IsBadAt : ℕ → Config → Found → Type 0
IsBadAt number c Clean = ⊥
IsBadAt number c (Absent count path value) = (count ≡ number) × IsFirstAbsent c path value
IsBadAt number c (Race count path other thing) = (count ≡ number) × IsFirstRace c path other (thing_of thing)

-- so many of the events lead safely to that configuration, and the others are left
pub record Going (p : Program) (start : Config) (all left : List Scheduled) (number : ℕ) (c : Config) : Type 0 where
  pub done : List Scheduled
  pub split : all ≡ done ++ left
  pub count : length done ≡ number
  pub leads : LeadsSafely p start (events_of done) c
