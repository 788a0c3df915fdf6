-- The law of a run's log: what has led to where its table begins, and the table's own list, are one list.
-- Lamport (1978): stamps by clocks that are consistent with what happened before.
use Rattle.std.specs.Prelude.{◌≡◌, ◌+◌, ◌<◌, ◌++◌, ℕ, List, Contains, map}
use Rattle.std.specs.List.{sum_by}
use Rattle.sf_core.specs.Machine.Config.{Config}
use Rattle.sf_core.specs.Machine.Step.{Event}
use Rattle.sf_core.specs.Program.Syntax.{Program}
use Rattle.sf_part.specs.Timed.{Stamped}
use Rattle.sf_region.specs.Marks.{Makes, Mark, events_of}
use Rattle.sf_region.specs.Stamps.{Rising, entry_of}
use Rattle.sf_setup.specs.Checked.Told.{IsLogUpTo}
use Rattle.sf_trace.specs.Logs.{IsLogOf}

-- where a log tells of all events up to a clock, those of a table come later and rise where their order
-- counts, and another log has just the entries of both, it is of all these events
unfoldable pub TablesGoOnWithLogs : Type 0
TablesGoOnWithLogs = (p : Program) (events : List Event) (marks : List Mark) (c d e : Config)
    (log all : List Stamped) (clock : ℕ) → IsLogUpTo p c events d log clock → Makes p d marks e
    → Rising marks → ((m : Mark) → Contains marks m → clock < m.stamp)
    → ((weigh : Stamped → ℕ) → sum_by weigh all ≡ sum_by weigh log + sum_by weigh (map entry_of marks))
    → IsLogOf p c (events ++ events_of marks) e all
