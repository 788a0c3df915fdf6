-- Laws of the machine: what a step changes and what it leaves alone, which tasks step, and how runs compose.
-- After Brookes (2007), where the footprints of actions say what they share.
use Rattle.std.specs.Prelude.{◌≡◌, ◌≢◌, ℕ, true, false, List, [], ◌∷◌, ◌++◌, Option, Some, None, ◌⊎◌, ◌↔◌, length, ◌≤◌}
use Rattle.sf_base.specs.declared.ids.ResId.{ResId}
use Rattle.sf_base.specs.declared.limits.TheConstants.{TURNS}
use Rattle.sf_base.specs.declared.path.Turn.TheVariants.{Left as left, Right as right}
use Rattle.sf_base.specs.declared.ids.ProcId.{ProcId}
use Rattle.sf_base.specs.declared.value.Value.{Value}
use Rattle.sf_core.specs.Machine.Bad.{Bad, IsAbsent, TouchesNoCell, IsAtNoCell}
use Rattle.sf_core.specs.Checked.Machine.InOrder.{IsInOrder}
use Rattle.sf_core.specs.Machine.Start.{Start}
use Rattle.sf_core.specs.Program.Formed.{IsFormed}
use Rattle.sf_core.specs.Machine.Config.{Item, leave, Fixed, Frame, Task, waits, Path, Common, Config, evaluate, task_at}
use Rattle.sf_core.specs.Machine.Next.{Next, does, leaves, returns, joins, nothing, next}
use Rattle.sf_core.specs.Machine.Enabled.{Thing, variable, cell, IsInRoom, Reads, Writes, HasEnded, IsEnabled}
use Rattle.sf_base.specs.HeapStore.{Heap, Slot, Splits, Store}
use Rattle.sf_core.specs.Machine.Reach.{Reach}
use Rattle.sf_core.specs.Assertions.Sat.{IsTrueOf}
use Rattle.sf_core.specs.Machine.Step.{Event, TaskStep, Step, procedure_at, room_count, room_for, task_with}
use Rattle.sf_core.specs.Program.Init.{sets_up}
use Rattle.sf_core.specs.Program.Syntax.{Command, assign, look_up, mutate, new, dispose, if, while, call, fork, with, Procedure, Program}

-- what the event of a command makes: the cell of a `new`, or the rooms of the callee of a call or of those of
-- a fork
abbrev pub CommandMakes : Program → Event → Command → Thing → Type 0
CommandMakes p event (assign place x e) thing = ⊥
CommandMakes p event (look_up place x e g) thing = ⊥
CommandMakes p event (mutate place e g v) thing = ⊥
CommandMakes p event (new place x) thing = thing ≡ cell event.at
CommandMakes p event (dispose place e) thing = ⊥
CommandMakes p event (if place test this that) thing = ⊥
CommandMakes p event (while place test kept body) thing = ⊥
CommandMakes p event (call place c) thing = (g : Procedure) × (procedure_at p c.callee ≡ Some g)
    × IsInRoom (room_for g event.number 0) thing
CommandMakes p event (fork place c d) thing =
    (g : Procedure) × (h : Procedure) × (procedure_at p c.callee ≡ Some g)
    × (procedure_at p d.callee ≡ Some h)
    × (IsInRoom (room_for g event.number 0) thing ⊎ IsInRoom (room_for h event.number (room_count g)) thing)
CommandMakes p event (with place r test body) thing = ⊥

-- what comes next makes this: only a command makes anything
abbrev pub Makes : Program → Event → Next → Thing → Type 0
Makes p event (does f below c rest) thing = CommandMakes p event c thing
Makes p event (leaves f below r rest) thing = ⊥
Makes p event (returns f below) thing = ⊥
Makes p event (joins frames one two) thing = ⊥
Makes p event nothing thing = ⊥

-- the thing is neither written nor made by what comes next
pub record IsLeft (p : Program) (event : Event) (store : Store) (what : Next) (thing : Thing) : Type 0 where
  pub unwritten : Writes store what thing → ⊥
  pub not_made : Makes p event what thing → ⊥

-- the command enters a region of that resource
abbrev pub Enters : Command → ResId → Type 0
Enters (with place q test body) r = r ≡ q
Enters _ r = ⊥

-- what comes next enters a region of that resource, or leaves one, or makes every resource free since all are set up: no
-- other resource changes hands
abbrev pub Moves : Program → Next → ResId → Type 0
Moves p (does f below c rest) r = Enters c r
Moves p (leaves f below q rest) r = r ≡ q
Moves p (returns f below) r = sets_up p f.procedure ≡ true
Moves p (joins frames one two) r = ⊥
Moves p nothing r = ⊥

-- the holder of a resource that changes hands: the task took it when it was free, or gave it back; or all are free from
-- then on
abbrev pub HolderChanges : Path → Next → (before after : Option Path) → Type 0
HolderChanges path (does f below c rest) before after = (before ≡ None) × (after ≡ Some path)
HolderChanges path (leaves f below q rest) before after = (before ≡ Some path) × (after ≡ None)
HolderChanges path (returns f below) before after = after ≡ None
HolderChanges path (joins frames one two) before after = ⊥
HolderChanges path nothing before after = ⊥

-- all that an event can change of what is shared
pub record ChangesOnlyFootprint (p : Program) (event : Event) (what : Next) (before after : Common) : Type 0 where
  pub variables : (slot : Slot) → IsLeft p event before.store what (variable slot)
      → after.store slot ≡ before.store slot
  pub cells : (location : ℕ) → IsLeft p event before.store what (cell location)
      → after.heap location ≡ before.heap location
  pub absent : (location : ℕ) → Makes p event what (cell location) → before.heap location ≡ None
  pub moved : (r : ResId) → Moves p what r → HolderChanges event.task what (before.held r) (after.held r)
  pub kept : (r : ResId) → (Moves p what r → ⊥) → after.held r ≡ before.held r

-- a task's step changes what it writes and what it makes, and nothing else
unfoldable pub StepsWriteOnlyTheirFootprint : Type 0
StepsWriteOnlyTheirFootprint = (p : Program) (event : Event) (s t : Common) (task u : Task)
    → TaskStep p event s task t u → ChangesOnlyFootprint p event (next task) s t

-- two states agree on a thing: the slot has the same value in both, or the location the same cell, or both
-- have nothing there
abbrev pub AgreeOn : Common → Common → Thing → Type 0
AgreeOn one two (variable slot) = one.store slot ≡ two.store slot
AgreeOn one two (cell location) = one.heap location ≡ two.heap location

-- the other state agrees on all that an event rests on: what it reads, the cells that it writes or makes, and
-- the holder of the resource that it enters or leaves
pub record AgreesOnReads (p : Program) (event : Event) (what : Next) (here other : Common) : Type 0 where
  pub read : (thing : Thing) → Reads here.store what thing → AgreeOn here other thing
  pub cells : (location : ℕ) → Writes here.store what (cell location) ⊎ Makes p event what (cell location)
      → AgreeOn here other (cell location)
  pub holders : (r : ResId) → Moves p what r → here.held r ≡ other.held r

-- what an event writes, makes and moves is the same in both states after it, and so is what was the same
-- before
pub record AgreesAfter (p : Program) (event : Event) (what : Next) (here other after also : Common) : Type 0 where
  pub things : (thing : Thing) → (Writes here.store what thing ⊎ Makes p event what thing)
      ⊎ AgreeOn here other thing → AgreeOn after also thing
  pub holders : (r : ResId) → Moves p what r ⊎ (here.held r ≡ other.held r) → after.held r ≡ also.held r

-- a task's step rests on what it reads, on the cells that it writes or makes, and on the holder of the resource
-- that it enters or leaves: where another state agrees on these, there is the same step, to the same task
unfoldable pub StepsAreLocal : Type 0
StepsAreLocal = (p : Program) (event : Event) (s t other : Common) (task u : Task)
    → TaskStep p event s task t u → AgreesOnReads p event (next task) s other
    → (w : Common) × TaskStep p event other task w u × AgreesAfter p event (next task) s other t w

-- the paths diverge: up to some turn they are the same, and there the one goes left and the other right
abbrev pub Diverge : Path → Path → Type 0
Diverge [] path = ⊥
Diverge (turn ∷ path) [] = ⊥
Diverge (left ∷ path) (left ∷ other) = Diverge path other
Diverge (left ∷ path) (right ∷ other) = Unit {0}
Diverge (right ∷ path) (left ∷ other) = Unit {0}
Diverge (right ∷ path) (right ∷ other) = Diverge path other

-- neither of two events of different tasks changes what the other reads or changes, and no resource changes
-- hands by both
pub record AreIndependent (p : Program) (one two : Event) (store : Store) (this that : Next) : Type 0 where
  pub first : (thing : Thing) → Writes store this thing ⊎ Makes p one this thing
      → Reads store that thing ⊎ (Writes store that thing ⊎ Makes p two that thing) → ⊥
  pub second : (thing : Thing) → Writes store that thing ⊎ Makes p two that thing → Reads store this thing → ⊥
  pub hands : (r : ResId) → Moves p this r → Moves p that r → ⊥

-- steps of different tasks commute where they are independent: the other order leads to the same configuration
unfoldable pub StepsCommute : Type 0
StepsCommute = (p : Program) (one two : Event) (c d e : Config) (this that : Task)
    → task_at one.task c.tasks ≡ Some this → task_at two.task c.tasks ≡ Some that → Diverge one.task two.task
    → AreIndependent p one two c.common.store (next this) (next that) → Step p one c d → Step p two d e
    → (m : Config) × Step p two c m × Step p one m e

-- what is shared splits: into a part of it, and a rest of cells and of variables
pub record HasPart (whole part : Common) (cells : Heap) (variables : Store) : Type 0 where
  pub heaps : Splits whole.heap part.heap cells
  pub stores : Splits whole.store part.store variables

-- the rest has no variable that an event of the part reads, writes or makes, and no cell that it makes; and the
-- part knows the holder of the resource that it enters or leaves
pub record IsOfPart (p : Program) (event : Event) (what : Next) (whole part : Common) (cells : Heap)
    (variables : Store) : Type 0 where
  pub read : (slot : Slot) → Reads part.store what (variable slot) → variables slot ≡ None
  pub changed : (slot : Slot) → Writes part.store what (variable slot) ⊎ Makes p event what (variable slot)
      → variables slot ≡ None
  pub made : (location : ℕ) → Makes p event what (cell location) → cells location ≡ None
  pub holder : (r : ResId) → Moves p what r → part.held r ≡ whole.held r

-- the whole splits after an event as before, with the same rest, and of its resources only the one that the event
-- moves changes hands, as in the part
pub record KeepsRest (p : Program) (what : Next) (whole whole_after part_after : Common) (cells : Heap)
    (variables : Store) : Type 0 where
  pub splits : HasPart whole_after part_after cells variables
  pub moved : (r : ResId) → Moves p what r → whole_after.held r ≡ part_after.held r
  pub kept : (r : ResId) → (Moves p what r → ⊥) → whole_after.held r ≡ whole.held r

-- safety is monotone: a step of a part is one of the whole, and leaves the rest.
-- Yang and O'Hearn, "A Semantic Basis for Local Reasoning" (2002)
unfoldable pub StepsAreMonotone : Type 0
StepsAreMonotone = (p : Program) (event : Event) (whole part after : Common) (cells : Heap) (variables : Store)
    (task u : Task) → HasPart whole part cells variables
    → IsOfPart p event (next task) whole part cells variables → TaskStep p event part task after u
    → (w : Common) × TaskStep p event whole task w u × KeepsRest p (next task) whole w after cells variables

-- the frame property: where a part is not about to touch an absent cell, a step of the whole is one of the part,
-- and leaves the rest.
-- Yang and O'Hearn (2002)
unfoldable pub StepsHaveFrames : Type 0
StepsHaveFrames = (p : Program) (event : Event) (whole part after : Common) (cells : Heap) (variables : Store)
    (task u : Task) → HasPart whole part cells variables
    → IsOfPart p event (next task) whole part cells variables → (IsAtNoCell part (next task) → ⊥)
    → TaskStep p event whole task after u
    → (t : Common) × TaskStep p event part task t u × KeepsRest p (next task) whole after t cells variables

-- an event leads to at most one configuration
unfoldable pub StepsAreDeterministic : Type 0
StepsAreDeterministic = (p : Program) (event : Event) (c d e : Config) → Step p event c d → Step p event c e
    → d ≡ e

-- the number is that of one of the events
abbrev pub HasNumber : List Event → ℕ → Type 0
HasNumber [] number = ⊥
HasNumber (event ∷ events) number = (number ≡ event.number) ⊎ HasNumber events number

-- no two of the events have one number
abbrev pub AreDistinct : List Event → Type 0
AreDistinct [] = Unit {0}
AreDistinct (event ∷ events) = (HasNumber events event.number → ⊥) × AreDistinct events

-- how a run uses numbers: each of its events has a new one, and just these are added
pub record Numbers (events : List Event) (before after : Config) : Type 0 where
  pub fresh : (number : ℕ) → HasNumber events number → before.used number ≡ false
  pub distinct : AreDistinct events
  pub added : (number : ℕ) → (after.used number ≡ true) ↔ (HasNumber events number ⊎ (before.used number ≡ true))

-- used numbers only grow, by the numbers of the events, which are new and different
unfoldable pub UsedNumbersGrow : Type 0
UsedNumbersGrow = (p : Program) (events : List Event) (c d : Config) → Reach p c events d → Numbers events c d

-- two runs, one after the other, are one run, and each run may be cut in two anywhere
unfoldable pub RunsCompose : Type 0
RunsCompose = (p : Program) (events more : List Event) (c d : Config)
    → Reach p c (events ++ more) d ↔ ((between : Config) × Reach p c events between × Reach p between more d)

-- the first path is that of an ancestor of the second one's task
abbrev pub IsAbove : Path → Path → Type 0
IsAbove path [] = ⊥
IsAbove [] (turn ∷ other) = Unit {0}
IsAbove (left ∷ path) (left ∷ other) = IsAbove path other
IsAbove (left ∷ path) (right ∷ other) = ⊥
IsAbove (right ∷ path) (left ∷ other) = ⊥
IsAbove (right ∷ path) (right ∷ other) = IsAbove path other

-- the task waits with these frames, for whatever children
abbrev pub WaitsWith : List Frame → Option Task → Type 0
WaitsWith frames task = (one : Task) × (two : Task) × (task ≡ Some (waits frames one two))

-- what a step of the task at one path leaves of the others: all of a task whose path parts from it, and the
-- frames of its ancestors
pub record KeepsOthers (path : Path) (before after : Task) : Type 0 where
  pub others : (other : Path) → Diverge other path → task_at other after ≡ task_at other before
  pub ancestors : (other : Path) → IsAbove other path
      → (frames : List Frame) × WaitsWith frames (task_at other before)
      × WaitsWith frames (task_at other after)

-- a step of one task leaves the tasks alone that are neither its ancestors nor its descendants, and its
-- ancestors go on waiting
unfoldable pub StepsFrameOtherTasks : Type 0
StepsFrameOtherTasks = (p : Program) (event : Event) (c d : Config) → Step p event c d
    → KeepsOthers event.task c.tasks d.tasks

-- only enabled tasks step
unfoldable pub OnlyEnabledTasksStep : Type 0
OnlyEnabledTasksStep = (p : Program) (event : Event) (c d : Config) → Step p event c d
    → (task : Task) × IsEnabled c event.task task

-- once the entry has ended no event comes
unfoldable pub EndedRunsStop : Type 0
EndedRunsStop = (p : Program) (event : Event) (c d : Config) → HasEnded [] c.tasks → Step p event c d → ⊥

-- of two different enabled tasks neither is an ancestor of the other
unfoldable pub EnabledTasksDiverge : Type 0
EnabledTasksDiverge = (c : Config) (path other : Path) (task another : Task) → IsEnabled c path task
    → IsEnabled c other another → path ≢ other → Diverge path other

-- what keeps the event of a command from being: an absent cell, a condition that is false, a callee that the
-- program lacks, a path of 63 turns
abbrev pub CommandStops : Program → Path → Common → Fixed → Command → Type 0
CommandStops p path s f (assign place x e) = ⊥
CommandStops p path s f (look_up place x e g) = IsAbsent s.heap (evaluate f.slots s.store e)
CommandStops p path s f (mutate place e g v) = IsAbsent s.heap (evaluate f.slots s.store e)
CommandStops p path s f (new place x) = ⊥
CommandStops p path s f (dispose place e) = IsAbsent s.heap (evaluate f.slots s.store e)
CommandStops p path s f (if place test this that) = ⊥
CommandStops p path s f (while place test kept body) = ⊥
CommandStops p path s f (call place one) = procedure_at p one.callee ≡ None
CommandStops p path s f (fork place one two) = (TURNS ≤ length path)
    ⊎ ((procedure_at p one.callee ≡ None) ⊎ (procedure_at p two.callee ≡ None))
CommandStops p path s f (with place r test body) = IsTrueOf (evaluate f.slots s.store) test → ⊥

-- what keeps the next event of a task from being: the above, or that it leaves a region whose resource it
-- doesn't hold
abbrev pub Stops : Program → Path → Common → Next → Type 0
Stops p path s (does f below c rest) = CommandStops p path s f c
Stops p path s (leaves f below r rest) = s.held r ≢ Some path
Stops p path s (returns f below) = ⊥
Stops p path s (joins frames one two) = ⊥
Stops p path s nothing = ⊥

-- an enabled task steps, by any event of it with a new number, unless one of these keeps it; where it makes a
-- cell its location has to be absent, and not 0
unfoldable pub EnabledTasksProgress : Type 0
EnabledTasksProgress = (p : Program) (event : Event) (c : Config) (task : Task) → IsEnabled c event.task task
    → c.used event.number ≡ false → ((location : ℕ) → Makes p event (next task) (cell location)
    → (location ≢ 0) × (c.common.heap location ≡ None))
    → ((d : Config) × Step p event c d) ⊎ Stops p event.task c.common (next task)

-- a task that one of these keeps from it has no event
unfoldable pub StoppedTasksDoNotStep : Type 0
StoppedTasksDoNotStep = (p : Program) (event : Event) (c d : Config) (task : Task)
    → task_at event.task c.tasks ≡ Some task → Stops p event.task c.common (next task) → Step p event c d → ⊥

-- each step keeps a configuration in order
unfoldable pub StepsKeepOrder : Type 0
StepsKeepOrder = (p : Program) (entry : Procedure) (event : Event) (c d : Config) → IsFormed p
    → IsInOrder p entry c → Step p event c d → IsInOrder p entry d

-- every configuration that is reached from a start is in order
unfoldable pub ReachedConfigsAreInOrder : Type 0
ReachedConfigsAreInOrder = (p : Program) (f : ProcId) (store : Store) (heap : Heap) (start c : Config)
    (events : List Event) → IsFormed p → (s : Start p f store heap start) → Reach p start events c
    → IsInOrder p s.procedure c

-- in a configuration in order the variables that the next step of a task reads or writes are in the store: the
-- value that counts where a slot is absent is never met
unfoldable pub UsedSlotsAreThere : Type 0
UsedSlotsAreThere = (p : Program) (entry : Procedure) (c : Config) (path : Path) (task : Task) (slot : Slot)
    → IsInOrder p entry c → task_at path c.tasks ≡ Some task
    → Reads c.common.store (next task) (variable slot) ⊎ Writes c.common.store (next task) (variable slot)
    → (v : Value) × (c.common.store slot ≡ Some v)

-- in a configuration in order a task whose next step is the exit from a region holds its resource
unfoldable pub ExitsAreOfHeldResources : Type 0
ExitsAreOfHeldResources = (p : Program) (entry : Procedure) (c : Config) (path : Path) (f : Fixed)
    (below : List Frame) (r : ResId) (rest : List Item) → IsInOrder p entry c
    → task_at path c.tasks ≡ Some (task_with f (leave r ∷ rest) below) → c.common.held r ≡ Some path

-- what may keep a task of a configuration in order from its step: an absent cell, a condition that is false, or
-- a path of 63 turns at a fork
abbrev pub CommandMayStop : Path → Common → Fixed → Command → Type 0
CommandMayStop path s f (fork place one two) = TURNS ≤ length path
CommandMayStop path s f (with place r test body) = IsTrueOf (evaluate f.slots s.store) test → ⊥
CommandMayStop path s f c = TouchesNoCell (evaluate f.slots s.store) s.heap c

-- what comes next is such a command
abbrev pub MayStop : Path → Common → Next → Type 0
MayStop path s (does f below c rest) = CommandMayStop path s f c
MayStop path s (leaves f below r rest) = ⊥
MayStop path s (returns f below) = ⊥
MayStop path s (joins frames one two) = ⊥
MayStop path s nothing = ⊥

-- in a configuration in order nothing else keeps a task: callees are there, and exits are of regions that it is
-- inside of
unfoldable pub OrderedTasksStopOnlyThere : Type 0
OrderedTasksStopOnlyThere = (p : Program) (entry : Procedure) (c : Config) (path : Path) (task : Task)
    → IsInOrder p entry c → task_at path c.tasks ≡ Some task → Stops p path c.common (next task)
    → MayStop path c.common (next task)

-- two events don't compete for a resource, nor for a cell that the second makes: the first neither makes it nor
-- writes it
pub record DoNotCompete (p : Program) (one two : Event) (store : Store) (this that : Next) : Type 0 where
  pub hands : (r : ResId) → Moves p this r → Moves p that r → ⊥
  pub made : (location : ℕ) → Makes p one this (cell location) → Makes p two that (cell location) → ⊥
  pub written : (location : ℕ) → Writes store this (cell location) → Makes p two that (cell location) → ⊥

-- from a configuration in order that isn't bad, steps of different tasks commute unless they compete: nothing
-- but a race or an absent cell, a resource and a cell that is made tells their orders apart
unfoldable pub RaceFreeStepsCommute : Type 0
RaceFreeStepsCommute = (p : Program) (entry : Procedure) (one two : Event) (c d e : Config) (this that : Task)
    → IsInOrder p entry c → (Bad c → ⊥) → task_at one.task c.tasks ≡ Some this
    → task_at two.task c.tasks ≡ Some that → Diverge one.task two.task
    → DoNotCompete p one two c.common.store (next this) (next that) → Step p one c d → Step p two d e
    → (m : Config) × Step p two c m × Step p one m e
