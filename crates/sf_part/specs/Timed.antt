-- Parts and contents with the logical time of their events: clocks, stamps and logs.
-- Lamport, "Time, Clocks, and the Ordering of Events in a Distributed System" (1978).
use Rattle.std.specs.Prelude.{◌≡◌, ◌≤◌, ◌+◌, ℕ, suc, Bool, false, cond, length, List, [], ◌∷◌, ◌++◌, map}
use Rattle.std.specs.List.{AllByRecursion}
use Rattle.sf_base.specs.declared.limits.TheConstants.{STEPS}
use Rattle.sf_core.specs.Machine.Config.{Path}
use Rattle.sf_core.specs.Machine.Step.{Event}
use Rattle.sf_core.specs.Machine.Whole.{Part, Content, numbers}

-- an entry of a log: when an event was, whose it was, and its number
pub record Stamped : Type 0 where
  pub stamp : ℕ
  pub task : Path
  pub number : ℕ

-- a part with its clock, its log where it keeps one, and how many units it was given at its start
pub record TimedPart : Type 0 where
  pub part : Part
  pub clock : ℕ
  pub keeps : Bool
  pub log : List Stamped
  pub given : ℕ

-- a content with the stamp of the exit that left it behind
pub record TimedContent : Type 0 where
  pub content : Content
  pub stamp : ℕ

-- contents without their stamps
abbrev pub contents_of : List TimedContent → List Content
contents_of contents = map (λ (k : TimedContent). k.content) contents

-- what an event adds to a log, which is nothing where none is kept
abbrev pub noted : Bool → Stamped → List Stamped
noted keeps entry = cond keeps (entry ∷ []) []

-- what the part of an event's task notes of it, from a clock and a log on: the clock is one more,
-- and is the event's stamp; what it was given and whether it keeps a log stay
pub record Notes (clock : ℕ) (log : List Stamped) (event : Event) (before after : TimedPart) : Type
    0 where
  pub keeps : after.keeps ≡ before.keeps
  pub given : after.given ≡ before.given
  pub clock_is : after.clock ≡ suc clock
  pub log_is : after.log ≡ log ++ noted before.keeps
      (record { stamp = after.clock; task = event.task; number = event.number })

-- IsInTime: no stamp of the log is above the clock; the clock and the units that are left are
-- together at most as many as the events that a run may be given; and where no log is kept it is
-- empty
pub record IsInTime (a : TimedPart) : Type 0 where
  pub logged : AllByRecursion (λ (entry : Stamped). entry.stamp ≤ a.clock) a.log
  pub within : a.clock + length (numbers a.part.supply) ≤ STEPS
  pub unlogged : a.keeps ≡ false → a.log ≡ []
