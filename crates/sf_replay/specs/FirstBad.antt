-- FirstBad: what is named of a configuration that is bad.
-- O'Hearn (2007); Brookes (2007): programs without memory faults and without races.
use Rattle.std.specs.Prelude.{◌≡◌, ◌⊎◌, true}
use Rattle.sf_base.specs.declared.value.Value.{Value}
use Rattle.sf_base.specs.HeapStore.{Store}
use Rattle.sf_core.specs.Machine.Config.{Task, Path, Config}
use Rattle.sf_core.specs.Machine.Enabled.{IsEnabled, Thing, Reads, Writes}
use Rattle.sf_core.specs.Machine.Next.{Next, next}
use Rattle.sf_machine.specs.Absent.{IsAtAbsent}
use Rattle.sf_replay.specs.Order.{path_before, thing_before}

-- the one writes the thing, and the other reads or writes it
abbrev pub WritesWhatMeets : Store → (one other : Next) → Thing → Type 0
WritesWhatMeets store one other thing = Writes store one thing × (Reads store other thing ⊎ Writes store other thing)

-- the tasks at the paths are enabled, and their next steps conflict on the thing: one writes what the other reads
-- or writes
pub record Conflicts (c : Config) (path other : Path) (thing : Thing) : Type 0 where
  pub task : Task
  pub enabled : IsEnabled c path task
  pub other_task : Task
  pub other_enabled : IsEnabled c other other_task
  pub conflict : WritesWhatMeets c.common.store (next task) (next other_task) thing
      ⊎ WritesWhatMeets c.common.store (next other_task) (next task) thing

-- the one pair of paths comes before the other
abbrev pub PairBefore : (one two path other : Path) → Type 0
PairBefore one two path other = (path_before one path ≡ true) ⊎ ((one ≡ path) × (path_before two other ≡ true))

-- the first enabled task by path whose next step is at an absent cell, and the value at which it looks for one
pub record IsFirstAbsent (c : Config) (path : Path) (value : Value) : Type 0 where
  pub absent : IsAtAbsent c path value
  pub first : (other : Path) (v : Value) → IsAtAbsent c other v → path_before other path ≡ true → ⊥

-- no enabled task's next step is at an absent cell; the first pair of enabled tasks by path that conflict, the one
-- before the other, and the first thing on which they do
pub record IsFirstRace (c : Config) (path other : Path) (thing : Thing) : Type 0 where
  pub none_absent : (one : Path) (v : Value) → IsAtAbsent c one v → ⊥
  pub ordered : path_before path other ≡ true
  pub conflicts : Conflicts c path other thing
  pub first : (one two : Path) (t : Thing) → path_before one two ≡ true → Conflicts c one two t
      → PairBefore one two path other → ⊥
  pub least : (t : Thing) → Conflicts c path other t → thing_before t thing ≡ true → ⊥
