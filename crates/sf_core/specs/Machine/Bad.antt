-- Bad: a task is about to touch an absent cell, or two tasks race.
-- O'Hearn (2007); Brookes (2007): programs without memory faults and without races.
use Rattle.std.specs.Prelude.{◌≡◌, ◌≢◌, None, ◌⊎◌}
use Rattle.sf_base.specs.declared.value.Value.{Value}
use Rattle.sf_base.specs.declared.value.Value.TheVariants.{Nil as nil, Int as int, Loc as loc}
use Rattle.sf_core.specs.declared.command.Expr.{Expr}
use Rattle.sf_core.specs.Machine.Config.{Task, Path, Common, Config, evaluate}
use Rattle.sf_core.specs.Machine.Next.{Next, does, leaves, returns, joins, nothing, next}
use Rattle.sf_core.specs.Machine.Enabled.{IsEnabled, Thing, Reads, Writes}
use Rattle.sf_base.specs.HeapStore.{Heap}
use Rattle.sf_core.specs.Program.Syntax.{Command, assign, look_up, mutate, new, dispose, if, while, call, fork, with}

-- the value is no location of the heap
abbrev pub IsAbsent : Heap → Value → Type 0
IsAbsent heap nil = Unit {0}
IsAbsent heap (int i) = Unit {0}
IsAbsent heap (loc location) = heap location ≡ None

-- the command is a look-up, a mutation or a dispose at a value that is no location of the heap
abbrev pub TouchesNoCell : (see : Expr → Value) → Heap → Command → Type 0
TouchesNoCell see heap (assign place x e) = ⊥
TouchesNoCell see heap (look_up place x e g) = IsAbsent heap (see e)
TouchesNoCell see heap (mutate place e g v) = IsAbsent heap (see e)
TouchesNoCell see heap (new place x) = ⊥
TouchesNoCell see heap (dispose place e) = IsAbsent heap (see e)
TouchesNoCell see heap (if place test this that) = ⊥
TouchesNoCell see heap (while place test kept body) = ⊥
TouchesNoCell see heap (call place c) = ⊥
TouchesNoCell see heap (fork place c d) = ⊥
TouchesNoCell see heap (with place r test body) = ⊥

-- what comes next is such a command
abbrev pub IsAtNoCell : Common → Next → Type 0
IsAtNoCell s (does f below c rest) = TouchesNoCell (evaluate f.slots s.store) s.heap c
IsAtNoCell s (leaves f below r rest) = ⊥
IsAtNoCell s (returns f below) = ⊥
IsAtNoCell s (joins frames one two) = ⊥
IsAtNoCell s nothing = ⊥

-- the next step of an enabled task is a look-up, a mutation or a dispose at a value that is no location of
-- the heap
pub record TouchesAbsent (c : Config) : Type 0 where
  pub path : Path
  pub task : Task
  pub enabled : IsEnabled c path task
  pub absent : IsAtNoCell c.common (next task)

-- the next steps of two different enabled tasks conflict: one writes what the other reads or writes
pub record Races (c : Config) : Type 0 where
  pub path : Path
  pub task : Task
  pub enabled : IsEnabled c path task
  pub other_path : Path
  pub other : Task
  pub other_enabled : IsEnabled c other_path other
  pub different : path ≢ other_path
  pub thing : Thing
  pub writes : Writes c.common.store (next task) thing
  pub meets : Reads c.common.store (next other) thing ⊎ Writes c.common.store (next other) thing

-- Bad: a step that touches an absent cell, or a race, is next
abbrev pub Bad : Config → Type 0
Bad c = TouchesAbsent c ⊎ Races c
