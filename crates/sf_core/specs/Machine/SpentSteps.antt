-- SpentSteps: a task that would go on and has no unit left.
-- Fuel of a task, which its events and those of its descendants use up.
use Rattle.std.specs.Prelude.{◌≡◌, ℕ, ◌+◌, Bool, true, false, cond, List, [], ◌∷◌, length, Option, Some, None}
use Rattle.sf_base.specs.declared.path.Turn.TheVariants.{Left as left, Right as right}
use Rattle.sf_core.specs.Machine.Config.{Path, Config, Task, runs, waits, task_at, IsOver}
use Rattle.sf_core.specs.Machine.Enabled.{HasEnded}
use Rattle.sf_core.specs.Machine.Step.{Event, Step}
use Rattle.sf_core.specs.Program.Syntax.{Program}
use Rattle.sf_core.specs.Machine.Supplies.{Supply, has, left_in, supply_at, units, Takes}

-- the first path is that of the task or of one above it
abbrev pub is_at_or_above : Path → Path → Bool
is_at_or_above [] other = true
is_at_or_above (turn ∷ path) [] = false
is_at_or_above (left ∷ path) (left ∷ other) = is_at_or_above path other
is_at_or_above (left ∷ path) (right ∷ other) = false
is_at_or_above (right ∷ path) (left ∷ other) = false
is_at_or_above (right ∷ path) (right ∷ other) = is_at_or_above path other

-- how many units a task was given, and how many events it and its descendants had since
pub record Spending : Type 0 where
  pub given : ℕ
  pub used : ℕ

-- where a task came up, its count begins anew
abbrev pub anew : (before after : Option Supply) → Spending → Spending
anew None None s = s
anew None (Some u) s = record { given = length (left_in u); used = 0 }
anew (Some v) u s = s

-- an event of the task or of a descendant is one more; another may have made the task
abbrev pub spends : Path → (at : Path) → (before after : Supply) → Spending → Spending
spends path at before after s = cond (is_at_or_above path at)
    (record { given = s.given; used = s.used + 1 }) (anew (supply_at path before) (supply_at path after) s)

-- a numbered run after which a task was given and used so many, and had this before
abbrev pub SpendingFrom : Program → Path → Config → Supply → Spending → List Event → Config → Spending → Type 0
SpendingFrom p path c supply s [] d last = (d ≡ c) × (last ≡ s)
SpendingFrom p path c supply s (event ∷ events) d last = (between : Config) × (rest : Supply)
    × Step p event c between × Takes event c supply rest
    × SpendingFrom p path between rest (spends path event.task supply rest s) events d last

-- the task doesn't wait for a child that hasn't ended
abbrev pub NeedsNoChild : Task → Type 0
NeedsNoChild (runs frames) = Unit {0}
NeedsNoChild (waits frames one two) = IsOver one × IsOver two

-- SpentSteps: after some numbered run a task that was given so many units has used as many, and would go on
pub record SpentSteps (p : Program) (start : Config) (base count : ℕ) (path : Path) (used : ℕ) : Type 0 where
  pub events : List Event
  pub config : Config
  pub run : SpendingFrom p path start (has (units base count)) (record { given = count; used = 0 }) events config
      (record { given = used; used = used })
  pub task : Task
  pub there : task_at path config.tasks ≡ Some task
  pub going : HasEnded path task → ⊥
  pub alone : NeedsNoChild task
