-- Config: one heap, one store, the holders of the resources, and a tree of tasks, each with a stack of frames.
-- O'Hearn, "Resources, Concurrency and Local Reasoning" (2007); Brookes, "A Semantics for CSL" (2007).
use Rattle.std.specs.Prelude.{ℕ, Bool, false, List, [], ◌∷◌, Option, Some, None, ◌==◌, ◌&&◌, ◌||◌, ◌+◌, ltb, leb}
use Rattle.std.specs.Option.{unwrap_or}
use Rattle.sf_base.specs.declared.ids.ProcId.{ProcId}
use Rattle.sf_base.specs.declared.ids.ResId.{ResId}
use Rattle.sf_base.specs.declared.ids.Var.{Var}
use Rattle.sf_base.specs.declared.path.Turn.{Turn}
use Rattle.sf_base.specs.declared.path.Turn.TheVariants.{Left as left, Right as right}
use Rattle.sf_base.specs.declared.value.Value.{Value}
use Rattle.sf_base.specs.declared.value.Value.TheVariants.{Nil as nil}
use Rattle.sf_core.specs.declared.command.Expr.{Expr}
use Rattle.sf_base.specs.HeapStore.{Heap, Store, Slot, shared, own}
use Rattle.sf_core.specs.Assertions.Sat.{value}
use Rattle.sf_core.specs.Program.Syntax.{Command, Block, done, then}

-- what a frame has still to do: a command, or the leaving of a region of that resource
pub data Item : Type 0 where
  command : Command → Item
  leave : ResId → Item

-- the commands of a block, in their order
abbrev pub items : Block → List Item
items done = []
items (then c b) = command c ∷ items b

-- the slots that an event made for the values and locals of a frame: `count` of them, with the indices from
-- `first`
pub record Room : Type 0 where
  pub event : ℕ
  pub first : ℕ
  pub count : ℕ

-- whether a slot is one of these
abbrev pub in_room : Room → Slot → Bool
in_room room (shared r i) = false
in_room room (own e i) = (e == room.event) && (leb room.first i && ltb i (room.first + room.count))

-- what stays of a frame: whose it is, which slots its variables name, and its own slots, which vanish at its
-- return
pub record Fixed : Type 0 where
  pub procedure : ProcId
  pub slots : Var → Slot
  pub room : Room

-- a frame: what stays of it, and what it has still to do
pub record Frame : Type 0 where
  pub fixed : Fixed
  pub todo : List Item

-- a task runs its frames, the innermost first, or waits with them at a fork for the two children that it made
-- there
pub data Task : Type 0 where
  runs : List Frame → Task
  waits : List Frame → (left right : Task) → Task

-- the place of a task in the tree: the turns from the entry's task down to it, each to one of the two
-- children of a fork
abbrev pub Path : Type 0
Path = List Turn

-- what all tasks share: the heap, the store, and for each resource the task that holds it, if one does
pub record Common : Type 0 where
  pub heap : Heap
  pub store : Store
  pub held : ResId → Option Path

-- Config: what is shared, the set of the numbers of the events so far, and the tree of the tasks
pub record Config : Type 0 where
  pub common : Common
  pub used : ℕ → Bool
  pub tasks : Task

-- the value of an expression where the variables name these slots; a slot that the store lacks counts as nil
abbrev pub evaluate : (Var → Slot) → Store → Expr → Value
evaluate slots store e = value (λ x. unwrap_or (store (slots x)) nil) e

-- the task at the end of a path, if there is one
abbrev pub task_at : Path → Task → Option Task
task_at [] t = Some t
task_at (left ∷ path) (waits frames one two) = task_at path one
task_at (right ∷ path) (waits frames one two) = task_at path two
task_at (left ∷ path) (runs frames) = None
task_at (right ∷ path) (runs frames) = None

-- the tree with that task at the end of the path, and all else as it was
abbrev pub put_task : Path → Task → Task → Task
put_task [] u t = u
put_task (left ∷ path) u (waits frames one two) = waits frames (put_task path u one) two
put_task (right ∷ path) u (waits frames one two) = waits frames one (put_task path u two)
put_task (left ∷ path) u (runs frames) = runs frames
put_task (right ∷ path) u (runs frames) = runs frames

-- the set of those numbers and this one
abbrev pub adds : ℕ → (ℕ → Bool) → ℕ → Bool
adds number used = λ other. (other == number) || used other

-- the frame is returned from when it has nothing more to do: it is not the entry's own
abbrev pub IsCalled : Path → (below : List Frame) → Type 0
IsCalled [] [] = ⊥
IsCalled [] (f ∷ below) = Unit {0}
IsCalled (turn ∷ path) below = Unit {0}

-- a child of a fork has ended: its procedure has returned
abbrev pub IsOver : Task → Type 0
IsOver (runs []) = Unit {0}
IsOver (runs (f ∷ below)) = ⊥
IsOver (waits frames one two) = ⊥
