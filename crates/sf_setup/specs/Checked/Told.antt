-- Told: that a log tells of all events up to a time.
-- Lamport (1978): stamps by clocks that are consistent with what happened before.
use Rattle.std.specs.Prelude.{ℕ, ◌≤◌, List, Contains}
use Rattle.sf_core.specs.Machine.Config.{Config}
use Rattle.sf_core.specs.Machine.Step.{Event}
use Rattle.sf_core.specs.Program.Syntax.{Program}
use Rattle.sf_part.specs.Timed.{Stamped}
use Rattle.sf_trace.specs.Logs.{IsLogOf, Timed}

-- IsLogUpTo: the log is of these events, and none of them is later than the clock
pub record IsLogUpTo (p : Program) (c : Config) (events : List Event) (d : Config)
    (log : List Stamped) (clock : ℕ) : Type 0 where
  pub is : IsLogOf p c events d log
  pub early : (x : Timed) → Contains is.timed x → x.stamp ≤ clock
