-- Supplies of units: the numbers that tasks may still give their events, and how events take them.
-- A binary tree of supplies, split at a fork and handed back at a join: fork-join parallelism, Lea, "A Java
-- Fork/Join Framework" (2000).
use Rattle.std.specs.Prelude.{◌≡◌, ℕ, zero, suc, ◌/◌, List, [], ◌∷◌, ◌++◌, length, take, drop, Option, Some, None}
use Rattle.sf_base.specs.declared.path.Turn.TheVariants.{Left as left, Right as right}
use Rattle.sf_base.specs.declared.value.Value.TheVariants.{Nil as nil}
use Rattle.sf_core.specs.Machine.Config.{Path, Config, task_at}
use Rattle.sf_core.specs.Machine.Next.{Next, does, leaves, returns, joins, nothing, next}
use Rattle.sf_core.specs.Machine.Config.{Task}
use Rattle.sf_core.specs.Machine.Step.{Event}
use Rattle.sf_core.specs.Program.Syntax.{Command, new, fork}

-- the units of a task, the next one first; or those of its two children, while it waits for them
pub data Supply : Type 0 where
  has : List ℕ → Supply
  lent : (one two : Supply) → Supply

-- so many units, from a base on
abbrev pub units : (base count : ℕ) → List ℕ
units base zero = []
units base (suc count) = base ∷ units (suc base) count

-- what is left in a supply, that of the left child first
abbrev pub left_in : Supply → List ℕ
left_in (has us) = us
left_in (lent one two) = left_in one ++ left_in two

-- the supply of the task at a path
abbrev pub supply_at : Path → Supply → Option Supply
supply_at [] s = Some s
supply_at (turn ∷ path) (has us) = None
supply_at (left ∷ path) (lent one two) = supply_at path one
supply_at (right ∷ path) (lent one two) = supply_at path two

-- the tree with that supply at the end of the path, and all else as it was
abbrev pub put_supply : Path → Supply → Supply → Supply
put_supply [] u s = u
put_supply (turn ∷ path) u (has us) = has us
put_supply (left ∷ path) u (lent one two) = lent (put_supply path u one) two
put_supply (right ∷ path) u (lent one two) = lent one (put_supply path u two)

-- the next unit is the event's number, and those after it are left
abbrev pub TakesNext : (number : ℕ) → List ℕ → List ℕ → Type 0
TakesNext number [] rest = ⊥
TakesNext number (u ∷ us) rest = (number ≡ u) × (rest ≡ us)

-- the event of a command: of a fork the left child gets the first half of what is left, rounded down, and the
-- right child the rest; a `new` makes its cell at its number, with all fields nil
abbrev pub CommandTakes : Event → Command → (before after : Supply) → Type 0
CommandTakes ev (fork place c d) before after = (rest : List ℕ) × TakesNext ev.number (left_in before) rest
    × (after ≡ lent (has (take (length rest / 2) rest)) (has (drop (length rest / 2) rest)))
CommandTakes ev (new place x) before after = (rest : List ℕ) × TakesNext ev.number (left_in before) rest
    × (after ≡ has rest) × (ev.at ≡ ev.number) × (ev.fields ≡ (λ f. nil))
CommandTakes ev _ before after = (rest : List ℕ) × TakesNext ev.number (left_in before) rest
    × (after ≡ has rest)

-- the event of what comes next; a join takes its unit from what the children hand back
abbrev pub NextTakes : Event → Next → (before after : Supply) → Type 0
NextTakes ev (does f below c rest) before after = CommandTakes ev c before after
NextTakes ev (leaves f below r rest) before after = (rest : List ℕ)
    × TakesNext ev.number (left_in before) rest × (after ≡ has rest)
NextTakes ev (returns f below) before after = (rest : List ℕ)
    × TakesNext ev.number (left_in before) rest × (after ≡ has rest)
NextTakes ev (joins frames one two) before after = (rest : List ℕ)
    × TakesNext ev.number (left_in before) rest × (after ≡ has rest)
NextTakes ev nothing before after = ⊥

-- the task of the event takes its next unit, and all others keep theirs
pub record Takes (ev : Event) (c : Config) (before after : Supply) : Type 0 where
  pub task : Task
  pub there : task_at ev.task c.tasks ≡ Some task
  pub own : Supply
  pub kept : Supply
  pub is : supply_at ev.task before ≡ Some own
  pub takes : NextTakes ev (next task) own kept
  pub rest : after ≡ put_supply ev.task kept before
