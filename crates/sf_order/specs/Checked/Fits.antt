-- What the tasks of a reached configuration keep: whatever commands they still have inside regions nests, and the
-- procedure that sets the resources up has none.
-- Ordinary: an invariant of steps, by the structure of commands, frames and tasks.
use Rattle.std.specs.Prelude.{◌≡◌, ◌⊎◌, List, [], ◌∷◌}
use Rattle.sf_base.specs.declared.ids.ProcId.{ProcId}
use Rattle.sf_base.specs.declared.ids.ResId.{ResId}
use Rattle.sf_core.specs.Machine.Config.{Item, command, leave, Frame, Task, runs, waits}
use Rattle.sf_core.specs.Machine.HasThroughout.{SetsUp}
use Rattle.sf_core.specs.Program.Syntax.{Command, assign, look_up, mutate, new, dispose, if, while, call, fork, with, Block, done, then, Program}
use Rattle.sf_calls.specs.Conditions.{Takes}
use Rattle.sf_order.specs.Nests.{Nests}

-- each resource of those around nests each that a call of the procedure may enter
abbrev pub CalleeFits : Program → (ResId → Type 0) → ProcId → Type 0
CalleeFits p around g = (r s : ResId) → around r → Takes p g s → Nests p r s

-- what may be entered there, inside regions of those around, nests in them
abbrev mutual
  pub CommandFits : Program → (ResId → Type 0) → Command → Type 0
  CommandFits p around (assign q x e) = Unit {0}
  CommandFits p around (look_up q x e field) = Unit {0}
  CommandFits p around (mutate q e field d) = Unit {0}
  CommandFits p around (new q x) = Unit {0}
  CommandFits p around (dispose q e) = Unit {0}
  CommandFits p around (if q t c d) = BlockFits p around c × BlockFits p around d
  CommandFits p around (while q t i c) = BlockFits p around c
  CommandFits p around (call q c) = CalleeFits p around c.callee
  CommandFits p around (fork q c d) = CalleeFits p around c.callee × CalleeFits p around d.callee
  CommandFits p around (with q s t c) = ((r : ResId) → around r → Nests p r s)
      × BlockFits p (λ r. (s ≡ r) ⊎ around r) c

  pub BlockFits : Program → (ResId → Type 0) → Block → Type 0
  BlockFits p around done = Unit {0}
  BlockFits p around (then c b) = CommandFits p around c × BlockFits p around b

-- a region of the resource is still to leave there
abbrev pub Leaves : List Item → ResId → Type 0
Leaves [] r = ⊥
Leaves (command c ∷ todo) r = Leaves todo r
Leaves (leave q ∷ todo) r = (q ≡ r) ⊎ Leaves todo r

-- and in one of these frames, or the procedure of one of them sets the resource up
abbrev pub AnyHolds : Program → List Frame → ResId → Type 0
AnyHolds p [] r = ⊥
AnyHolds p (f ∷ frames) r = Leaves f.todo r ⊎ (SetsUp p f.fixed.procedure r ⊎ AnyHolds p frames r)

-- each command fits in the regions that are still to leave after it, and in those around
abbrev pub TodoFits : Program → (ResId → Type 0) → List Item → Type 0
TodoFits p around [] = Unit {0}
TodoFits p around (command c ∷ todo) = CommandFits p (λ r. Leaves todo r ⊎ around r) c × TodoFits p around todo
TodoFits p around (leave q ∷ todo) = TodoFits p around todo

-- so does each frame in what its procedure sets up, and in what the frames below it hold
abbrev pub FramesFit : Program → (ResId → Type 0) → List Frame → Type 0
FramesFit p around [] = Unit {0}
FramesFit p around (f ∷ frames) =
    TodoFits p (λ r. SetsUp p f.fixed.procedure r ⊎ (AnyHolds p frames r ⊎ around r)) f.todo
    × FramesFit p around frames

-- and each task in what the tasks hold that wait for it
abbrev pub TaskFits : Program → (ResId → Type 0) → Task → Type 0
TaskFits p around (runs frames) = FramesFit p around frames
TaskFits p around (waits frames one two) = FramesFit p around frames
    × TaskFits p (λ r. AnyHolds p frames r ⊎ around r) one × TaskFits p (λ r. AnyHolds p frames r ⊎ around r) two

-- a call of the procedure that sets the resources up may enter none
abbrev pub SetterTakesNone : Program → Type 0
SetterTakesNone p = (f : ProcId) (r s : ResId) → SetsUp p f r → Takes p f s → ⊥
