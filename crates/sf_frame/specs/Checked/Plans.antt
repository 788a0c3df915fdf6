-- What the code plans for the event of a command.
-- Ordinary: an effect on what is shared and a change of the frames, or why there is none.
use Rattle.std.specs.Prelude.{◌≡◌, ◌⊎◌, ℕ, ◌<◌, true, length, List, [], ◌∷◌, None, is_some}
use Rattle.sf_base.specs.declared.place.Place.{Place}
use Rattle.sf_base.specs.HeapStore.{Cell, Slot, own}
use Rattle.sf_core.specs.Machine.Config.{Item, command, Fixed, Frame, runs, waits, Common}
use Rattle.sf_core.specs.Machine.Enabled.{variable, CommandWrites}
use Rattle.sf_core.specs.Machine.Step.{Event, Does}
use Rattle.sf_core.specs.Program.Syntax.{Call, Command, mutate, new, call, fork, with, Program}
use Rattle.sf_frame.specs.declared.effect.Effect.TheVariants.{OpenBoth}
use Rattle.sf_frame.specs.declared.plan.Plan.{Plan}
use Rattle.sf_frame.specs.declared.plan.Plan.TheVariants.{Acts, Forks, Refused}
use Rattle.sf_frame.specs.declared.stamp.Stamp.{Stamp}
use Rattle.sf_frame.specs.Frames.{frame_of}
use Rattle.sf_frame.specs.Refusals.{Refuses}
use Rattle.sf_frame.specs.Stamps.{event_of}
use Rattle.sf_frame.specs.Checked.Effects.{applied, EffectWithin, IsMore, Suits}
use Rattle.sf_frame.specs.Checked.Frames.{moved, IsCall}
use Rattle.sf_frame.specs.Checked.Nexts.{frames_with}

-- the procedures are there that the command calls
abbrev pub HasCallees : Program → Command → Type 0
HasCallees p (call place c) = c.callee.0 < length p.procedures
HasCallees p (fork place c d) = (c.callee.0 < length p.procedures) × (d.callee.0 < length p.procedures)
HasCallees p _ = Unit {0}

-- the field that the command sets is one of the program's
abbrev pub SetsField : Program → Command → Type 0
SetsField p (mutate place e field v) = field.0 < length p.fields
SetsField p _ = Unit {0}

-- what the event of a command rests on: the variables that it writes are there, and so are the
-- procedures that it calls and the field that it sets, and no variable is that has that number
pub record IsReady (p : Program) (number : ℕ) (s : Common) (f : Fixed) (one : Command) : Type 0 where
  pub written : (slot : Slot) → CommandWrites f.slots s.store one (variable slot)
      → is_some (s.store slot) ≡ true
  pub callees : HasCallees p one
  pub field : SetsField p one
  pub fresh : (i : ℕ) → s.store (own number i) ≡ None

-- the command calls a procedure
abbrev pub CallsSome : Command → Type 0
CallsSome (call place c) = Unit {0}
CallsSome (fork place c d) = Unit {0}
CallsSome _ = ⊥

-- the event of the command may take room: it makes a cell, enters a region or calls a procedure
abbrev pub TakesRoom : Command → Type 0
TakesRoom (new place x) = Unit {0}
TakesRoom (with place r test body) = Unit {0}
TakesRoom (call place c) = Unit {0}
TakesRoom (fork place c d) = Unit {0}
TakesRoom _ = ⊥

-- the plan has more than an edit, or a frame more, only for such a command
abbrev pub FitsPlan : Command → Plan → Type 0
FitsPlan one (Acts effect change) = IsMore effect ⊎ IsCall change → TakesRoom one
FitsPlan one _ = Unit {0}

-- the plan is that of a command's event: what it makes of what is shared and of the frames is the step of the task,
-- or at a fork also of its two children, and what it changes is there; or it says why there is no step
abbrev pub PlansCommand : Program → Event → Common → Fixed → (below : List Frame) → Command
    → (rest : List Item) → Plan → Type 0
PlansCommand p ev s f below one rest (Acts effect change) =
    Does p ev s f below one rest (applied ev effect s) (runs (moved change (frames_with f (command one ∷ rest) below)))
    × Suits ev effect s × EffectWithin p effect
PlansCommand p ev s f below one rest (Forks left right) =
    Does p ev s f below one rest (applied ev (OpenBoth left.opening right.opening) s)
    (waits (frames_with f rest below) (runs (frame_of left.frame ∷ [])) (runs (frame_of right.frame ∷ [])))
    × Suits ev (OpenBoth left.opening right.opening) s
PlansCommand p ev s f below one rest (Refused why) = Refuses ev s f one why

-- whatever else the task has to do
abbrev pub Plans : Program → Event → Common → Fixed → Command → Plan → Type 0
Plans p ev s f one plan = (below : List Frame) (rest : List Item) → PlansCommand p ev s f below one rest plan

-- the plan is that of each event with that stamp, whatever cell it has
abbrev pub PlansStamp : Program → Stamp → Common → Fixed → Command → Plan → Type 0
PlansStamp p stamp s f one plan = (cell : Cell) → Plans p (event_of stamp cell) s f one plan

-- of `f(x; E)`
abbrev pub PlansCall : Program → Event → Common → Fixed → Call → Plan → Type 0
PlansCall p ev s f c plan = (place : Place) → Plans p ev s f (call place c) plan

-- of `f(x; E) || g(y; F)`
abbrev pub PlansFork : Program → Event → Common → Fixed → (left right : Call) → Plan → Type 0
PlansFork p ev s f c d plan = (place : Place) → Plans p ev s f (fork place c d) plan
