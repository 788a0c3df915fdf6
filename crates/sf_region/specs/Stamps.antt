-- Stamps: what the stamps and the logs say of the list of events.
-- Lamport, "Time, Clocks, and the Ordering of Events in a Distributed System" (1978): happened
-- before.
use Rattle.std.specs.Prelude.{◌≡◌, ℕ, ◌+◌, ◌<◌, ◌≤◌, ◌⊎◌, true, List, [], ◌∷◌, ◌++◌, map, length, Option, Some, Contains}
use Rattle.std.specs.List.{sum_by}
use mathlib.Core.Option.{some}
use lib.ListN.{get_elem?}
use Rattle.sf_base.specs.declared.ids.ResId.{ResId}
use Rattle.sf_base.specs.declared.path.Turn.{Turn}
use Rattle.sf_core.specs.Machine.Config.{Path}
use Rattle.sf_core.specs.Machine.Whole.{numbers}
use Rattle.sf_part.specs.declared.content.Content.{Content}
use Rattle.sf_part.specs.Keeps.{IsWaiting}
use Rattle.sf_part.specs.Timed.{Stamped, TimedPart}
use Rattle.sf_region.specs.Marks.{Kind, private, entry, exit, forking, joining, Mark}

-- an event of that kind enters or leaves a region of the resource
abbrev pub Touches : ResId → Kind → Type 0
Touches r private = ⊥
Touches r (entry q) = q ≡ r
Touches r (exit q) = q ≡ r
Touches r forking = ⊥
Touches r joining = ⊥

-- the second path is that of a child of the first one's task
abbrev pub IsChild : Path → Path → Type 0
IsChild parent child = (turn : Turn) × (child ≡ parent ++ turn ∷ [])

-- the order of these two counts, the first being the earlier: both are of one task, or both enter
-- or leave a region of one resource, or the earlier is a fork by the parent of the later one's
-- task,
-- or the later is a join by the parent of the earlier one's task
abbrev pub Tied : Mark → Mark → Type 0
Tied m n = (m.event.task ≡ n.event.task)
    ⊎ (((r : ResId) × Touches r m.kind × Touches r n.kind)
    ⊎ (((m.kind ≡ forking) × IsChild m.event.task n.event.task)
    ⊎ ((n.kind ≡ joining) × IsChild n.event.task m.event.task)))

-- of two whose order counts, the later has the greater stamp
abbrev pub Rising : List Mark → Type 0
Rising [] = Unit {0}
Rising (m ∷ marks) = ((n : Mark) → Contains marks n → Tied m n → m.stamp < n.stamp) × Rising marks

-- what a log says of an event
abbrev pub entry_of : Mark → Stamped
entry_of m = record { stamp = m.stamp; task = m.event.task; number = m.event.number }

-- how many units a part has
abbrev pub units_of : TimedPart → ℕ
units_of a = length (numbers a.part.supply)

-- Stamps: where logs are kept, the logs of the parts have exactly the entries that the first part's
-- log had and those of the events, each as often, however entries are weighed; stamps are later
-- than the clock at the beginning, and rise where the order counts; and no clock or stamp is above
-- that clock and the count of the events
pub record Stamps (first : TimedPart) (marks : List Mark) (parts : List TimedPart)
    (contents : List (Option Content)) : Type 0 where
  pub logs : first.keeps ≡ true → (weigh : Stamped → ℕ)
      → sum_by (λ (a : TimedPart). sum_by weigh a.log) parts
      ≡ sum_by weigh first.log + sum_by weigh (map entry_of marks)
  pub late : (m : Mark) → Contains marks m → first.clock < m.stamp
  pub rising : Rising marks
  pub clocks : (a : TimedPart) → Contains parts a → a.clock ≤ first.clock + length marks
  pub stamps : (r : ℕ) (k : Content) → get_elem? contents r ≡ some (Some k)
      → k.stamp ≤ first.clock + length marks
  -- what the events have taken of the first supply, and what is left of it
  pub supply : length marks + sum_by units_of parts ≡ units_of first
  -- a task that waits has none
  pub idle : (a : TimedPart) → Contains parts a → IsWaiting a.part.stand
      → numbers a.part.supply ≡ []
  -- for the events to come: no event of a task at a path is later than the path's reign. It is at
  -- most the clock of the part there and of its children's, and where there is no part at a path,
  -- its reign is at most the parent's
  pub reign : Path → ℕ
  pub ruled : (m : Mark) → Contains marks m → m.stamp ≤ reign m.event.task
  pub over : (a : TimedPart) → Contains parts a → reign a.part.task ≤ a.clock
  pub gone : (path child : Path) → IsChild path child
      → ((a : TimedPart) → Contains parts a → a.part.task ≡ child → ⊥) → reign child ≤ reign path
  pub elders : (path : Path) (a : TimedPart) → Contains parts a → IsChild path a.part.task
      → reign path ≤ a.clock
  pub old : (a : TimedPart) → Contains parts a → first.clock ≤ a.clock
  -- an entry or an exit is no later than the content that was left, or the part that is inside
  pub free : (m : Mark) (r : ResId) (k : Content) → Contains marks m → Touches r m.kind
      → get_elem? contents r.0 ≡ some (Some k) → m.stamp ≤ k.stamp
  pub held : (m : Mark) (r : ResId) (a : TimedPart) → Contains marks m → Touches r m.kind
      → Contains parts a → a.part.holds r ≡ true → m.stamp ≤ a.clock
  pub keeps : (a : TimedPart) → Contains parts a → a.keeps ≡ first.keeps
