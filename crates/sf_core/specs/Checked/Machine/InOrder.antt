-- InOrder: what every configuration of a program keeps, whichever events have led to it.
-- After the well-formed configurations of type soundness, Wright and Felleisen, "A Syntactic Approach to Type
-- Soundness" (1994).
use Rattle.std.specs.Prelude.{◌≡◌, ◌≢◌, ℕ, zero, suc, ◌+◌, ◌==◌, ◌≤◌, ◌<◌, Bool, true, cond, ◌&&◌, ◌||◌, ltb, Option, Some, None, List, [], ◌∷◌, length, slice_get, is_some}
use Rattle.std.specs.List.{AllByRecursion}
use Rattle.sf_base.specs.declared.ids.ResId.{ResId}
use Rattle.sf_base.specs.declared.ids.Var.{Var}
use Rattle.sf_base.specs.declared.ids.Var.TheVariants.{Shared}
use Rattle.sf_base.specs.declared.limits.TheConstants.{TURNS}
use Rattle.sf_base.specs.HeapStore.{Slot, shared, own}
use Rattle.sf_core.specs.Machine.Config.{Item, command, leave, in_room, Fixed, Frame, Task, runs, waits, Path, Config, task_at}
use Rattle.sf_core.specs.Machine.Start.{entry_slot}
use Rattle.sf_core.specs.Machine.Step.{procedure_at, room_for}
use Rattle.sf_core.specs.Program.Formed.{variable_count, IsInBody, CommandWithin}
use Rattle.sf_core.specs.Program.Init.{sets_up}
use Rattle.sf_core.specs.Program.Syntax.{Procedure, Program}

-- Stacks of frames
-- that holds of the frames of each task
abbrev pub EachStack : (List Frame → Type 0) → Task → Type 0
EachStack P (runs frames) = P frames
EachStack P (waits frames one two) = P frames × EachStack P one × EachStack P two

-- the frames of a task; none where there is no task
abbrev pub stack_of : Option Task → List Frame
stack_of None = []
stack_of (Some (runs frames)) = frames
stack_of (Some (waits frames one two)) = frames

-- What is to do
-- an item is well formed for a procedure
abbrev pub ItemWithin : Program → Procedure → Item → Type 0
ItemWithin p g (command c) = CommandWithin p g c
ItemWithin p g (leave r) = r.0 < length p.resources

-- the frame's procedure is there, and what is still to do is well formed for it
pub record FrameIsFormed (p : Program) (f : Frame) : Type 0 where
  pub procedure : Procedure
  pub there : procedure_at p f.fixed.procedure ≡ Some procedure
  pub todo : AllByRecursion (ItemWithin p procedure) f.todo

-- Regions
-- how often a region of that resource is still to leave
abbrev pub exits : ResId → List Item → ℕ
exits r [] = 0
exits r (command c ∷ todo) = exits r todo
exits r (leave q ∷ todo) = cond (q.0 == r.0) 1 0 + exits r todo

-- how often the frame has that resource of the program apart from regions: once where its procedure sets them all up
abbrev pub throughout : Program → ResId → Fixed → ℕ
throughout p r f = cond (sets_up p f.procedure && ltb r.0 (length p.resources)) 1 0

-- how often a task with these frames has that resource: by the regions that it is inside of, or since it sets them up
abbrev pub regions : Program → ResId → List Frame → ℕ
regions p r [] = 0
regions p r (f ∷ frames) = (throughout p r f.fixed + exits r f.todo) + regions p r frames

-- Slots
-- the slot is one of the entry's references, or of a variable of a resource: it is in no frame's room
abbrev pub is_outer : Program → (entry : Procedure) → Slot → Bool
is_outer p g (own e i) = (e == 0) && ltb i g.references
is_outer p g (shared r i) = ltb i (variable_count (slice_get p.resources r.0))

-- how many of the frames have the slot in their rooms
abbrev pub rooms_in : Slot → List Frame → ℕ
rooms_in slot [] = 0
rooms_in slot (f ∷ frames) = cond (in_room f.fixed.room slot) 1 0 + rooms_in slot frames

-- how many frames of the tree have it
abbrev pub rooms_with : Slot → Task → ℕ
rooms_with slot (runs frames) = rooms_in slot frames
rooms_with slot (waits frames one two) = rooms_in slot frames + (rooms_with slot one + rooms_with slot two)

-- how often the slot is there: outside the rooms, and in those of the tree
abbrev pub times_there : Program → (entry : Procedure) → Task → Slot → ℕ
times_there p g t slot = cond (is_outer p g slot) 1 0 + rooms_with slot t

-- Names
-- those slots, and those of the rooms of these frames
abbrev pub with_rooms : List Frame → (Slot → Bool) → Slot → Bool
with_rooms [] scope slot = scope slot
with_rooms (f ∷ frames) scope slot = in_room f.fixed.room slot || with_rooms frames scope slot

-- the variables of a frame name slots of that scope, and those of resources their own
pub record NamesOf (p : Program) (scope : Slot → Bool) (f : Fixed) : Type 0 where
  pub resources : (r : ResId) (i : ℕ) → f.slots (Shared r i) ≡ shared r i
  pub within : (g : Procedure) → procedure_at p f.procedure ≡ Some g → (x : Var) → IsInBody p g x
      → scope (f.slots x) ≡ true

-- each of the frames names slots of that scope, of its own room, and of the rooms of the frames below it
abbrev pub NamesBelow : Program → (Slot → Bool) → List Frame → Type 0
NamesBelow p scope [] = Unit {0}
NamesBelow p scope (f ∷ frames) = NamesOf p (with_rooms (f ∷ frames) scope) f.fixed × NamesBelow p scope frames

-- so does each frame of the tree: the children's frames may name those of the frames that wait for them too
abbrev pub NamesInTree : Program → (Slot → Bool) → Task → Type 0
NamesInTree p scope (runs frames) = NamesBelow p scope frames
NamesInTree p scope (waits frames one two) = NamesBelow p scope frames
    × NamesInTree p (with_rooms frames scope) one × NamesInTree p (with_rooms frames scope) two

-- The tree
-- each task that waits has a frame
abbrev pub WaitersHaveFrames : Task → Type 0
WaitersHaveFrames (runs frames) = Unit {0}
WaitersHaveFrames (waits frames one two) = (frames ≢ []) × WaitersHaveFrames one × WaitersHaveFrames two

-- no path in the tree has more turns than that
abbrev pub HasTurns : ℕ → Task → Type 0
HasTurns n (runs frames) = Unit {0}
HasTurns zero (waits frames one two) = ⊥
HasTurns (suc n) (waits frames one two) = HasTurns n one × HasTurns n two

-- the last of these frames is the entry's, with its own variables
abbrev pub EndsInEntry : (entry : Procedure) → List Frame → Type 0
EndsInEntry g [] = ⊥
EndsInEntry g (f ∷ []) = (f.fixed.slots ≡ entry_slot) × (f.fixed.room ≡ room_for g 0 g.references)
EndsInEntry g (f ∷ h ∷ below) = EndsInEntry g (h ∷ below)

-- a configuration is in order, of a program and of the procedure that is its entry
pub record IsInOrder (p : Program) (entry : Procedure) (c : Config) : Type 0 where
  -- each frame's procedure is there, and what is to do is well formed for it
  pub formed : EachStack (AllByRecursion (FrameIsFormed p)) c.tasks
  -- a task is inside of one region of each resource that it holds, or sets it up
  pub inside : (r : ResId) (path : Path) → c.common.held r ≡ Some path
      → regions p r (stack_of (task_at path c.tasks)) ≡ 1
  -- and of no others
  pub outside : (r : ResId) (path : Path) → c.common.held r ≢ Some path
      → regions p r (stack_of (task_at path c.tasks)) ≡ 0
  -- rooms are of used numbers
  pub numbers : EachStack (AllByRecursion (λ f. c.used f.fixed.room.event ≡ true)) c.tasks
  -- the start's number is used
  pub start : c.used 0 ≡ true
  -- rooms are disjoint from one another and from the slots outside them
  pub disjoint : (slot : Slot) → times_there p entry c.tasks slot ≤ 1
  -- the store has exactly the rooms and the slots outside them
  pub store : (slot : Slot) → is_some (c.common.store slot) ≡ ltb 0 (times_there p entry c.tasks slot)
  -- frames name slots outside the rooms, of their own rooms and of those of the frames below them, across forks too
  pub names : NamesInTree p (is_outer p entry) c.tasks
  -- the entry's frame is at the bottom of the entry's task, so its slots are there
  pub bottom : EndsInEntry entry (stack_of (Some c.tasks))
  -- tasks that wait have frames
  pub waiting : WaitersHaveFrames c.tasks
  -- paths have at most 63 turns
  pub depth : HasTurns TURNS c.tasks
