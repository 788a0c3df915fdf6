-- What the code finds that a task does next.
-- Ordinary: a case of the task, and what it has.
use Rattle.std.specs.Prelude.{◌≡◌, ◌≢◌, Bool, true, List, [], ◌∷◌}
use Rattle.sf_core.specs.Machine.Config.{Item, command, leave, Fixed, Frame, Task, runs, waits, IsOver}
use Rattle.sf_core.specs.Machine.Step.{task_with}
use Rattle.sf_core.specs.Program.View.{command_of}
use Rattle.sf_frame.specs.declared.following.Next.{Next as StackNext}
use Rattle.sf_frame.specs.declared.following.Next.TheVariants.{Does as does, Leaves as leaves, Returns as returns, Done as done}
use Rattle.sf_frame.specs.Frames.{fixed_of, room_of}
use Rattle.sf_machine.specs.declared.following.Next.{Next}
use Rattle.sf_machine.specs.declared.following.Next.TheVariants.{Does, Leaves, Returns, Joins, Nothing}

-- what a task does next whose frames do that
abbrev pub next_by : StackNext → Next
next_by (does f one) = Does f one
next_by (leaves r) = Leaves r
next_by (returns g room) = Returns g room
next_by done = Nothing

-- the task has ended, where it is the entry's if so, or waits for a child
abbrev pub IsIdle : Bool → Task → Type 0
IsIdle entry (runs []) = Unit {0}
IsIdle entry (runs (f ∷ [])) = (entry ≡ true) × (f.todo ≡ [])
IsIdle entry (runs (f ∷ g ∷ below)) = ⊥
IsIdle entry (waits frames one two) = IsOver one × IsOver two → ⊥

-- the task does that next
abbrev pub IsNext : Task → Bool → Next → Type 0
IsNext t entry (Does f one) = (below : List Frame) × (rest : List Item)
    × (t ≡ task_with (fixed_of f.now) (command (command_of one.now) ∷ rest) below)
IsNext t entry (Leaves r) = (f : Fixed) × (below : List Frame) × (rest : List Item)
    × (t ≡ task_with f (leave r ∷ rest) below)
IsNext t entry (Returns g room) = (f : Fixed) × (below : List Frame) × (t ≡ task_with f [] below)
    × (f.room ≡ room_of room) × (entry ≡ true → below ≢ []) × (f.procedure ≡ g)
IsNext t entry Joins = (frames : List Frame) × (one : Task) × (two : Task) × (t ≡ waits frames one two)
    × IsOver one × IsOver two
IsNext t entry Nothing = IsIdle entry t
