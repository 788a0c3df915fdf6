-- Of: that a part is of a program: what its frames have still to do stands in bodies of the
-- program, they have called one another, it has the variables of its frames, and it holds the
-- resources of the regions that it is inside of.
-- O'Hearn (2007): what a task owns is enough for it to go on alone.
use Rattle.std.specs.Prelude.{◌≡◌, ◌⊎◌, ◌+◌, ◌==◌, ◌&&◌, ltb, ◌<◌, ℕ, true, false, cond, List, [], ◌∷◌, ◌++◌, length, Some, None, Contains, is_some}
use Rattle.std.specs.List.{slice_get}
use Rattle.sf_base.specs.declared.ids.ResId.{ResId}
use Rattle.sf_base.specs.declared.ids.Var.{Var}
use Rattle.sf_base.specs.declared.ids.Var.TheVariants.{Own, Shared}
use Rattle.sf_base.specs.HeapStore.{Slot, Store, shared}
use Rattle.sf_calls.specs.Conditions.{Calls, Enters, Free, Has}
use Rattle.sf_calls.specs.Outside.{IsAmong, Makes}
use Rattle.sf_calls.specs.Reaches.{Reaches}
use Rattle.sf_base.specs.declared.ids.ProcId.{ProcId}
use Rattle.sf_core.specs.Machine.Config.{Item, command, leave, Room, in_room, Frame}
use Rattle.sf_core.specs.Machine.HasThroughout.{HasThroughout}
use Rattle.sf_core.specs.Machine.Step.{procedure_at}
use Rattle.sf_core.specs.Machine.Whole.{Stand, running, waiting, Part}
use Rattle.sf_core.specs.Program.Formed.{variable_count}
use Rattle.sf_core.specs.Program.Heads.{Site, Somewhere, sites, inner_sites}
use Rattle.sf_core.specs.Program.Init.{sets_up}
use Rattle.sf_core.specs.Program.Syntax.{Procedure, Program}

-- the resources of the regions that are still to be left, the innermost first
abbrev pub inside : List Item → List ResId
inside [] = []
inside (command c ∷ todo) = inside todo
inside (leave r ∷ todo) = r ∷ inside todo

-- the walk over what is still to be done, as over a body: each command with the regions around it
abbrev pub sites_in : List Item → List Site
sites_in [] = []
sites_in (command c ∷ todo) = record { entered = inside todo; command = c }
    ∷ (inner_sites (inside todo) c ++ sites_in todo)
sites_in (leave r ∷ todo) = sites_in todo

-- a variable of a frame of that procedure: its own, and those of resources that are free in it or
-- that it has entered; where it sets the resources up, those of all
abbrev pub IsVariable : Program → Frame → Procedure → Var → Type 0
IsVariable p f g (Own n) = n < length g.names
IsVariable p f g (Shared r i) = (i < variable_count (slice_get p.resources r.0))
    × (Free p f.fixed.procedure (Shared r i)
    ⊎ (Contains (inside f.todo) r ⊎ (sets_up p f.fixed.procedure ≡ true)))

-- a frame is the program's: its commands stand in the body of its procedure, inside of the same
-- regions, and its variables and its own slots are there
pub record FrameIsOf (p : Program) (store : Store) (f : Frame) : Type 0 where
  pub procedure : Procedure
  pub there : procedure_at p f.fixed.procedure ≡ Some procedure
  pub todo : (s : Site) → Contains (sites_in f.todo) s → Contains (sites [] procedure.body) s
  pub names : (r : ResId) (i : ℕ) → f.fixed.slots (Shared r i) ≡ shared r i
  pub variables : (x : Var) → IsVariable p f procedure x → is_some (store (f.fixed.slots x)) ≡ true
  pub room : (slot : Slot) → in_room f.fixed.room slot ≡ true → is_some (store slot) ≡ true

-- the store without the slots of a room
abbrev pub without : Room → Store → Store
without room store slot = cond (in_room room slot) None (store slot)

-- each of the frames is, those below another in what is left once its own slots have vanished
abbrev pub FramesAreOf : Program → Store → List Frame → Type 0
FramesAreOf p store [] = Unit {0}
FramesAreOf p store (f ∷ below) = FrameIsOf p store f
    × FramesAreOf p (without f.fixed.room store) below

-- a call in the body of g passes that variable to f, as a reference
abbrev pub Passes : Program → Var → (g f : ProcId) → Type 0
Passes p x g f = Has p (λ h. Somewhere (λ s. Makes s.command
    (λ d. (d.callee ≡ f) × IsAmong x d.references)) h.body) g

-- f is passed it so, or is called by one that is
abbrev pub IsPassed : Program → Var → ProcId → Type 0
IsPassed p x = Reaches (λ f. (g : ProcId) × Passes p x g f) (λ f g. Calls p None g f)

-- a frame is inside of regions that its procedure's body has, and an own variable of it names one
-- of a resource only where a call has passed that one
pub record HasEntered (p : Program) (f : Frame) : Type 0 where
  pub regions : (r : ResId) → Contains (inside f.todo) r → Enters p r f.fixed.procedure
  pub passed : (n : ℕ) (r : ResId) (i : ℕ) → f.fixed.slots (Own n) ≡ shared r i
      → IsPassed p (Shared r i) f.fixed.procedure

-- the frame's procedure holds no resource through its body, and no own variable of it names one of
-- a resource's
pub record HasNothing (p : Program) (f : Frame) : Type 0 where
  pub holds : (r : ResId) → HasThroughout p f.fixed.procedure r → ⊥
  pub names : (n : ℕ) (r : ResId) (i : ℕ) → f.fixed.slots (Own n) ≡ shared r i → ⊥

-- the frame has called f: a command of its body does, inside of the regions that the frame still has
-- to leave
abbrev pub HasCalled : Program → Frame → ProcId → Type 0
HasCalled p g f = Has p (λ h. Somewhere (λ s. (s.entered ≡ inside g.todo)
    × Makes s.command (λ d. d.callee ≡ f)) h.body) g.fixed.procedure

-- the frame next below one of that procedure has called it; or that procedure sets the resources up,
-- and below it is the entry's frame alone, which has nothing of them. It isn't that one which has
-- none below
abbrev pub IsAbove : Program → ProcId → List Frame → Type 0
IsAbove p f [] = sets_up p f ≡ false
IsAbove p f (g ∷ below) = HasCalled p g f
    ⊎ ((sets_up p f ≡ true) × HasNothing p g × (below ≡ []))

-- so it is with each of the frames
abbrev pub AreInOrder : Program → List Frame → Type 0
AreInOrder p [] = Unit {0}
AreInOrder p (f ∷ below) = HasEntered p f × IsAbove p f.fixed.procedure below
    × AreInOrder p below

-- how often there is a region of the resource still to be left
abbrev pub times_left : ResId → List Item → ℕ
times_left r [] = 0
times_left r (command c ∷ todo) = times_left r todo
times_left r (leave q ∷ todo) = cond (q.0 == r.0) 1 0 + times_left r todo

-- how often a task with these frames has the resource: by the regions that it is inside of, and
-- once in a frame that sets all of them up
abbrev pub times_held : Program → ResId → List Frame → ℕ
times_held p r [] = 0
times_held p r (f ∷ frames) =
    (cond (sets_up p f.fixed.procedure && ltb r.0 (length p.resources)) 1 0 + times_left r f.todo)
    + times_held p r frames

-- the frames of a task
abbrev pub frames_in : Stand → List Frame
frames_in (running frames) = frames
frames_in (waiting frames) = frames

-- the frames of a task that runs are the program's in what the part has, and those of one that
-- waits in that together with what it has lent to its children
abbrev pub StandIsOf : Program → Store → Stand → Type 0
StandIsOf p store (running frames) = FramesAreOf p store frames
StandIsOf p store (waiting frames) = (all : Store)
    × ((slot : Slot) → is_some (store slot) ≡ true → is_some (all slot) ≡ true)
    × FramesAreOf p all frames

-- IsOf: the part is of the program
pub record IsOf (p : Program) (a : Part) : Type 0 where
  pub stands : StandIsOf p a.store a.stand
  -- it holds a resource exactly while it is inside of one region of it, or sets all of them up
  pub inside : (r : ResId) → times_held p r (frames_in a.stand) ≡ cond (a.holds r) 1 0
  -- its frames have called one another, and entered what they are inside of
  pub order : AreInOrder p (frames_in a.stand)
