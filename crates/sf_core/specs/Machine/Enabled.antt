-- Enabled: which tasks may step next as far as others allow, and what their next steps read and write.
-- O'Hearn (2007) for races; Brookes (2007) for the footprints of actions.
use Rattle.std.specs.Prelude.{◌≡◌, ◌≢◌, ℕ, true, List, [], ◌∷◌, Option, Some, None, ◌⊎◌}
use Rattle.sf_base.specs.declared.ids.ResId.{ResId}
use Rattle.sf_base.specs.declared.ids.Var.{Var}
use Rattle.sf_base.specs.declared.value.Value.{Value}
use Rattle.sf_base.specs.declared.value.Value.TheVariants.{Nil as nil, Int as int, Loc as loc}
use Rattle.sf_core.specs.declared.assertion.Test.{Test}
use Rattle.sf_core.specs.declared.assertion.Test.TheVariants.{True, Equal, Differ}
use Rattle.sf_core.specs.declared.command.Expr.{Expr}
use Rattle.sf_core.specs.declared.command.Expr.TheVariants.{Var as Variable, Nil, Int}
use Rattle.sf_core.specs.Machine.Config.{Room, in_room, Task, runs, waits, Path, Config, evaluate, task_at, IsOver}
use Rattle.sf_core.specs.Machine.Next.{Next, does, leaves, returns, joins, nothing, next}
use Rattle.sf_base.specs.HeapStore.{Slot, Store}
use Rattle.sf_core.specs.Program.Syntax.{Command, assign, look_up, mutate, new, dispose, if, while, call, fork, with}

-- a task at that path has ended: it has no frame, or it is the entry's, doesn't wait, and its one frame has
-- nothing more to do
abbrev pub HasEnded : Path → Task → Type 0
HasEnded path (runs []) = Unit {0}
HasEnded [] (runs (f ∷ [])) = f.todo ≡ []
HasEnded [] (runs (f ∷ g ∷ below)) = ⊥
HasEnded (turn ∷ path) (runs (f ∷ below)) = ⊥
HasEnded path (waits frames one two) = ⊥

-- the command is a region of a resource that is held
abbrev pub IsShut : (ResId → Option Path) → Command → Type 0
IsShut held (with place r test body) = held r ≢ None
IsShut held _ = ⊥

-- what comes next has to wait for others: for a resource that is held, or for a child that hasn't ended
abbrev pub IsBlocked : (ResId → Option Path) → Next → Type 0
IsBlocked held (does f below c rest) = IsShut held c
IsBlocked held (leaves f below r rest) = ⊥
IsBlocked held (returns f below) = ⊥
IsBlocked held (joins frames one two) = IsOver one × IsOver two → ⊥
IsBlocked held nothing = ⊥

-- Enabled: there is such a task at the path, it hasn't ended, and it needn't wait for others
pub record IsEnabled (c : Config) (path : Path) (task : Task) : Type 0 where
  pub there : task_at path c.tasks ≡ Some task
  pub going : HasEnded path task → ⊥
  pub free : IsBlocked c.common.held (next task) → ⊥

-- what a step may read or write: the variable in a slot, or the cell at a location
pub data Thing : Type 0 where
  variable : Slot → Thing
  cell : ℕ → Thing

-- the variable that an expression evaluates
abbrev pub ReadsExpr : (Var → Slot) → Expr → Thing → Type 0
ReadsExpr slots (Variable x) thing = thing ≡ variable (slots x.var)
ReadsExpr slots Nil thing = ⊥
ReadsExpr slots (Int i) thing = ⊥

-- the variables that a test evaluates
abbrev pub ReadsTest : (Var → Slot) → Test Expr → Thing → Type 0
ReadsTest slots True thing = ⊥
ReadsTest slots (Equal x y) thing = ReadsExpr slots x thing ⊎ ReadsExpr slots y thing
ReadsTest slots (Differ x y) thing = ReadsExpr slots x thing ⊎ ReadsExpr slots y thing

-- the variables that value arguments evaluate
abbrev pub ReadsAll : (Var → Slot) → List Expr → Thing → Type 0
ReadsAll slots [] thing = ⊥
ReadsAll slots (e ∷ es) thing = ReadsExpr slots e thing ⊎ ReadsAll slots es thing

-- the cell at a value, which is one only at a location
abbrev pub IsCellAt : Value → Thing → Type 0
IsCellAt nil thing = ⊥
IsCellAt (int i) thing = ⊥
IsCellAt (loc location) thing = thing ≡ cell location

-- what a command's event reads: the variables that it evaluates, and the cell of a look-up; a call doesn't
-- read the references that it passes
abbrev pub CommandReads : (Var → Slot) → Store → Command → Thing → Type 0
CommandReads slots store (assign place x e) thing = ReadsExpr slots e thing
CommandReads slots store (look_up place x e g) thing =
    ReadsExpr slots e thing ⊎ IsCellAt (evaluate slots store e) thing
CommandReads slots store (mutate place e g v) thing = ReadsExpr slots e thing ⊎ ReadsExpr slots v thing
CommandReads slots store (new place x) thing = ⊥
CommandReads slots store (dispose place e) thing = ReadsExpr slots e thing
CommandReads slots store (if place test this that) thing = ReadsTest slots test thing
CommandReads slots store (while place test kept body) thing = ReadsTest slots test thing
CommandReads slots store (call place c) thing = ReadsAll slots c.values thing
CommandReads slots store (fork place c d) thing = ReadsAll slots c.values thing
    ⊎ ReadsAll slots d.values thing
CommandReads slots store (with place r test body) thing = ReadsTest slots test thing

-- what a command's event writes: the variable that it assigns, or the cell of a mutation or dispose; the cell
-- of a `new` isn't there before
abbrev pub CommandWrites : (Var → Slot) → Store → Command → Thing → Type 0
CommandWrites slots store (assign place x e) thing = thing ≡ variable (slots x.var)
CommandWrites slots store (look_up place x e g) thing = thing ≡ variable (slots x.var)
CommandWrites slots store (mutate place e g v) thing = IsCellAt (evaluate slots store e) thing
CommandWrites slots store (new place x) thing = thing ≡ variable (slots x.var)
CommandWrites slots store (dispose place e) thing = IsCellAt (evaluate slots store e) thing
CommandWrites slots store (if place test this that) thing = ⊥
CommandWrites slots store (while place test kept body) thing = ⊥
CommandWrites slots store (call place c) thing = ⊥
CommandWrites slots store (fork place c d) thing = ⊥
CommandWrites slots store (with place r test body) thing = ⊥

-- the variables in the slots of a room
abbrev pub IsInRoom : Room → Thing → Type 0
IsInRoom room (variable slot) = in_room room slot ≡ true
IsInRoom room (cell location) = ⊥

-- what comes next reads this: only a command reads
abbrev pub Reads : Store → Next → Thing → Type 0
Reads store (does f below c rest) thing = CommandReads f.slots store c thing
Reads store (leaves f below r rest) thing = ⊥
Reads store (returns f below) thing = ⊥
Reads store (joins frames one two) thing = ⊥
Reads store nothing thing = ⊥

-- what comes next writes this: a return writes the frame's own slots
abbrev pub Writes : Store → Next → Thing → Type 0
Writes store (does f below c rest) thing = CommandWrites f.slots store c thing
Writes store (leaves f below r rest) thing = ⊥
Writes store (returns f below) thing = IsInRoom f.room thing
Writes store (joins frames one two) thing = ⊥
Writes store nothing thing = ⊥
