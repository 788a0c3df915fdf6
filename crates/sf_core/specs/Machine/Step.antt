-- Step: what one event of one task does to a configuration, for each kind of event.
-- O'Hearn (2007), Brookes (2007) for regions and forks; Berdine, Calcagno, O'Hearn (2005) for the commands.
use Rattle.std.specs.Prelude.{◌≡◌, ◌≢◌, ℕ, zero, suc, Bool, false, cond, List, [], ◌∷◌, ◌++◌, Option, Some, None, ◌⊎◌, get_or, length, map, ◌==◌, ◌+◌, ◌-◌, ◌<◌}
use Rattle.std.specs.List.{slice_get}
use Rattle.sf_base.specs.declared.limits.TheConstants.{TURNS}
use Rattle.sf_base.specs.declared.ids.ProcId.{ProcId}
use Rattle.sf_base.specs.declared.ids.ResId.{ResId}
use Rattle.sf_base.specs.declared.ids.Var.{Var}
use Rattle.sf_base.specs.declared.ids.Var.TheVariants.{Own, Shared}
use Rattle.sf_base.specs.declared.value.Value.{Value}
use Rattle.sf_base.specs.declared.value.Value.TheVariants.{Nil as nil, Loc as loc}
use Rattle.sf_core.specs.declared.assertion.Test.{Test}
use Rattle.sf_core.specs.declared.command.Expr.{Expr}
use Rattle.sf_core.specs.declared.command.Occurrence.{Occurrence}
use Rattle.sf_core.specs.Machine.Config.{Item, command, leave, items, Room, in_room, Fixed, Frame, Task, runs, waits, Path, Common, Config, evaluate, task_at, put_task, adds, IsCalled, IsOver}
use Rattle.sf_core.specs.Machine.Next.{Next, does, leaves, returns, joins, nothing, next}
use Rattle.sf_base.specs.HeapStore.{Cell, put_field, Heap, Slot, shared, own, same_slot, Store}
use Rattle.sf_core.specs.Assertions.Sat.{IsTrueOf}
use Rattle.sf_core.specs.Program.Init.{sets_up}
use Rattle.sf_core.specs.Program.Syntax.{Call, Command, assign, look_up, mutate, new, dispose, if, while, call, fork, with, Procedure, Program}

-- an event: whose it is and its number; a `new` makes the cell with those fields at that location
pub record Event : Type 0 where
  pub task : Path
  pub number : ℕ
  pub at : ℕ
  pub fields : Cell

-- the variable in that slot gets a value
abbrev pub set_slot : Slot → Value → Common → Common
set_slot slot v s = record s { store = λ other. cond (same_slot other slot) (Some v) (s.store other) }

-- the location has that cell from now on, or none
abbrev pub set_cell : ℕ → Option Cell → Common → Common
set_cell location c s = record s { heap = λ other. cond (other == location) c (s.heap other) }

-- the resource is held by that task from now on, or by none
abbrev pub set_holder : ResId → Option Path → Common → Common
set_holder r holder s = record s { held = λ other. cond (other.0 == r.0) holder (s.held other) }

-- the place of a slot among those that its event made
abbrev pub index_of : Slot → ℕ
index_of (shared r i) = i
index_of (own e i) = i

-- the slots of a room come up, with these values by their places in the room
abbrev pub open_room : Room → (ℕ → Value) → Common → Common
open_room room v s = record s {
  store = λ slot. cond (in_room room slot)
      (Some (v (index_of slot - room.first))) (s.store slot);
}

-- the slots of a room vanish
abbrev pub close_room : Room → Common → Common
close_room room s = record s { store = λ slot. cond (in_room room slot) None (s.store slot) }

-- every resource is free from now on, where it is so
abbrev pub free_all_if : Bool → Common → Common
free_all_if so s = record s { held = λ r. cond so None (s.held r) }

-- the slot of a procedure's own variable: a reference names the caller's variable, the others are in the room
abbrev pub own_slot : (Var → Slot) → List Occurrence → Room → ℕ → Slot
own_slot caller [] room i = own room.event (room.first + i)
own_slot caller (x ∷ xs) room zero = caller x.var
own_slot caller (x ∷ xs) room (suc i) = own_slot caller xs room i

-- the slots of the variables of a procedure that is called
abbrev pub slots_of : (Var → Slot) → Call → Room → Var → Slot
slots_of caller c room (Own i) = own_slot caller c.references room i
slots_of caller c room (Shared r i) = shared r i

-- the values in the room of a call at its start: those of its value arguments, and nil in the locals after
-- them
abbrev pub arguments : (Var → Slot) → Store → Call → ℕ → Value
arguments caller store c i = get_or (map (evaluate caller store) c.values) i nil

-- how many values and locals a procedure has
abbrev pub room_count : Procedure → ℕ
room_count g = length g.names - g.references

-- the room that an event makes for a call of g, from an index on
abbrev pub room_for : Procedure → (event first : ℕ) → Room
room_for g event first = record { event = event; first = first; count = room_count g }

-- the first frame of a call of g, with its whole body to do
abbrev pub callee_frame : (Var → Slot) → Call → Procedure → Room → Frame
callee_frame caller c g room = record {
  fixed = record
      { procedure = c.callee; slots = slots_of caller c room; room = room };
  todo = items g.body;
}

-- the task with these frames, the innermost of which has that still to do
abbrev pub task_with : Fixed → List Item → List Frame → Task
task_with f todo below = runs (record { fixed = f; todo = todo } ∷ below)

-- the two children of a fork begin below the task's frames; the right one's slots come after the left one's
abbrev pub fork_task : (caller : Var → Slot) → Call → Procedure → Call → Procedure → (event : ℕ) → List Frame
    → Task
fork_task caller c g d h event frames =
    waits frames (runs (callee_frame caller c g (room_for g event 0) ∷ []))
    (runs (callee_frame caller d h (room_for h event (room_count g)) ∷ []))

-- the procedure of that number, if the program has one
abbrev pub procedure_at : Program → ProcId → Option Procedure
procedure_at p f = slice_get p.procedures f.0

-- the heap has a cell where the expression says: this one, at this location
pub record Finds (see : Expr → Value) (heap : Heap) (root : Expr) (location : ℕ) (cell : Cell) : Type 0 where
  pub is : see root ≡ loc location
  pub there : heap location ≡ Some cell

-- the task goes on in the one way where the test is true, and in the other where it isn't
abbrev pub Chooses : (see : Expr → Value) → Test Expr → (this that : Task) → Task → Type 0
Chooses see test this that u = (IsTrueOf see test × (u ≡ this)) ⊎ ((IsTrueOf see test → ⊥) × (u ≡ that))

-- one command of frame f above others, with the rest still to do: what is shared goes from s to t, and the
-- task becomes u
abbrev pub Does : Program → Event → Common → Fixed → (below : List Frame) → Command → (rest : List Item)
    → Common → Task → Type 0
Does p ev s f below (assign place x e) rest t u =
    (t ≡ set_slot (f.slots x.var) (evaluate f.slots s.store e) s) × (u ≡ task_with f rest below)
Does p ev s f below (look_up place x e g) rest t u =
    (location : ℕ) × (cell : Cell) × Finds (evaluate f.slots s.store) s.heap e location cell
    × (t ≡ set_slot (f.slots x.var) (cell g.0) s) × (u ≡ task_with f rest below)
Does p ev s f below (mutate place e g v) rest t u =
    (location : ℕ) × (cell : Cell) × Finds (evaluate f.slots s.store) s.heap e location cell
    × (t ≡ set_cell location (Some (put_field cell g.0 (evaluate f.slots s.store v))) s)
    × (u ≡ task_with f rest below)
Does p ev s f below (new place x) rest t u =
    (ev.at ≢ 0) × (s.heap ev.at ≡ None)
    × (t ≡ set_slot (f.slots x.var) (loc ev.at) (set_cell ev.at (Some ev.fields) s))
    × (u ≡ task_with f rest below)
Does p ev s f below (dispose place e) rest t u =
    (location : ℕ) × (cell : Cell) × Finds (evaluate f.slots s.store) s.heap e location cell
    × (t ≡ set_cell location None s) × (u ≡ task_with f rest below)
Does p ev s f below (if place test this that) rest t u =
    (t ≡ s) × Chooses (evaluate f.slots s.store) test (task_with f (items this ++ rest) below)
    (task_with f (items that ++ rest) below) u
Does p ev s f below (while place test kept body) rest t u =
    (t ≡ s) × Chooses (evaluate f.slots s.store) test
    (task_with f (items body ++ (command (while place test kept body) ∷ rest)) below)
    (task_with f rest below) u
Does p ev s f below (call place c) rest t u =
    (g : Procedure) × (procedure_at p c.callee ≡ Some g)
    × (t ≡ open_room (room_for g ev.number 0) (arguments f.slots s.store c) s)
    × (u ≡ runs (callee_frame f.slots c g (room_for g ev.number 0) ∷ record { fixed = f; todo = rest }
    ∷ below))
Does p ev s f below (fork place c d) rest t u =
    (length ev.task < TURNS)
    × (g : Procedure) × (h : Procedure) × (procedure_at p c.callee ≡ Some g)
    × (procedure_at p d.callee ≡ Some h)
    × (t ≡ open_room (room_for h ev.number (room_count g)) (arguments f.slots s.store d)
    (open_room (room_for g ev.number 0) (arguments f.slots s.store c) s))
    × (u ≡ fork_task f.slots c g d h ev.number (record { fixed = f; todo = rest } ∷ below))
Does p ev s f below (with place r test body) rest t u =
    (s.held r ≡ None) × IsTrueOf (evaluate f.slots s.store) test
    × (t ≡ set_holder r (Some ev.task) s) × (u ≡ task_with f (items body ++ (leave r ∷ rest)) below)

-- the return of a frame: its room vanishes, and where its procedure sets the resources up, they are free from then on
abbrev pub returned : Program → Fixed → Common → Common
returned p f s = free_all_if (sets_up p f.procedure) (close_room f.room s)

-- the event of what comes next: a command's, or an exit, a return or a join
abbrev pub Goes : Program → Event → Common → Next → Common → Task → Type 0
Goes p ev s (does f below c rest) t u = Does p ev s f below c rest t u
Goes p ev s (leaves f below r rest) t u = (s.held r ≡ Some ev.task) × (t ≡ set_holder r None s)
    × (u ≡ task_with f rest below)
Goes p ev s (returns f below) t u = IsCalled ev.task below × (t ≡ returned p f s) × (u ≡ runs below)
Goes p ev s (joins frames one two) t u = IsOver one × IsOver two × (t ≡ s) × (u ≡ runs frames)
Goes p ev s nothing t u = ⊥

-- the next event of a task: what is shared goes from s to t, and the task becomes u
abbrev pub TaskStep : Program → Event → Common → Task → Common → Task → Type 0
TaskStep p ev s task t u = Goes p ev s (next task) t u

-- Step: the event's number is new, the task at its path steps, and the tree is the old one with that task in
-- its place
pub record Step (p : Program) (event : Event) (before after : Config) : Type 0 where
  pub fresh : before.used event.number ≡ false
  pub used : after.used ≡ adds event.number before.used
  pub from : Task
  pub to : Task
  pub there : task_at event.task before.tasks ≡ Some from
  pub steps : TaskStep p event before.common from after.common to
  pub tasks : after.tasks ≡ put_task event.task to before.tasks
