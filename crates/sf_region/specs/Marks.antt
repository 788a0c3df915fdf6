-- Marks: the events of a run, each with its kind and its stamp, and what they lead to.
-- Lamport (1978) for stamps; O'Hearn (2007) for the events at which tasks meet.
use Rattle.std.specs.Prelude.{◌≡◌, ℕ, List, [], ◌∷◌, map}
use Rattle.sf_base.specs.declared.ids.ResId.{ResId}
use Rattle.sf_core.specs.Machine.Config.{Frame, Task, Config}
use Rattle.sf_core.specs.Machine.Next.{Next, joins, next}
use Rattle.sf_core.specs.Machine.Numbered.{NumberedFrom}
use Rattle.sf_core.specs.Machine.Step.{Event, Step}
use Rattle.sf_core.specs.Machine.Supplies.{Supply}
use Rattle.sf_core.specs.Machine.Whole.{Part, Content, Whole}
use Rattle.sf_core.specs.Program.Syntax.{Program}
use Rattle.sf_part.specs.Steps.{IsPrivate, IsEntry, IsExit, IsFork}
use Rattle.sf_part.specs.Supplied.{Supplied}

-- what an event is to other tasks: its task's own affair, the entry or the exit of a region of that
-- resource, a parallel call, or the join of its two children
pub data Kind : Type 0 where
  private : Kind
  entry : ResId → Kind
  exit : ResId → Kind
  forking : Kind
  joining : Kind

-- an event of the list, with its kind and its stamp
pub record Mark : Type 0 where
  pub event : Event
  pub kind : Kind
  pub stamp : ℕ

-- the events alone
abbrev pub events_of : List Mark → List Event
events_of marks = map (λ (m : Mark). m.event) marks

-- what comes next is of that kind
abbrev pub IsKind : Program → Kind → Next → Type 0
IsKind p private what = IsPrivate p what
IsKind p (entry r) what = IsEntry what r
IsKind p (exit r) what = IsExit what r
IsKind p forking what = IsFork what
IsKind p joining what = (frames : List Frame) × (one : Task) × (two : Task)
    × (what ≡ joins frames one two)

-- Makes: the events, one after the other, lead from the one configuration to the other, and each
-- is of its kind
abbrev pub Makes : Program → Config → List Mark → Config → Type 0
Makes p c [] d = d ≡ c
Makes p c (m ∷ marks) d = (between : Config) × (s : Step p m.event c between)
    × IsKind p m.kind (next s.from) × Makes p between marks d

-- Arrives: where the events lead from a configuration that these parts are the tasks of, and that
-- they are numbered by the units of these parts
pub record Arrives (p : Program) (first : List Part) (c : Config) (marks : List Mark) : Type 0 where
  pub config : Config
  pub makes : Makes p c marks config
  pub numbered : (supply : Supply) → Supplied first supply
      → (rest : Supply) × NumberedFrom p c supply (events_of marks) config rest

-- History: they lead to a configuration that the parts and contents are, taken together, and leave
-- the units of these parts
pub record History (p : Program) (first : List Part) (c : Config) (marks : List Mark)
    (parts : List Part) (contents : List Content) : Type 0 where
  pub config : Config
  pub makes : Makes p c marks config
  pub whole : Whole parts contents config
  pub numbered : (supply : Supply) → Supplied first supply
      → (rest : Supply) × NumberedFrom p c supply (events_of marks) config rest
      × Supplied parts rest
