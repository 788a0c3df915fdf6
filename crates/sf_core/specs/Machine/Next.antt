-- Next: what a task does next, which its innermost frame's next item says, or its two children.
-- After the actions of processes in Brookes, "A Semantics for Concurrent Separation Logic" (2007).
use Rattle.std.specs.Prelude.{List, [], ◌∷◌}
use Rattle.sf_base.specs.declared.ids.ResId.{ResId}
use Rattle.sf_core.specs.Machine.Config.{Item, command, leave, Fixed, Frame, Task, runs, waits}
use Rattle.sf_core.specs.Program.Syntax.{Command}

-- what a task does next: a command of a frame above others, with the rest still to do; the exit from a region
-- of that resource; the return from a frame that has nothing more to do; the join of two children with the
-- frames that wait for them; or nothing
pub data Next : Type 0 where
  does : Fixed → (below : List Frame) → Command → (rest : List Item) → Next
  leaves : Fixed → (below : List Frame) → ResId → (rest : List Item) → Next
  returns : Fixed → (below : List Frame) → Next
  joins : (frames : List Frame) → (left right : Task) → Next
  nothing : Next

-- what a frame above others does next
abbrev pub frame_next : Fixed → (below : List Frame) → (todo : List Item) → Next
frame_next f below [] = returns f below
frame_next f below (command c ∷ rest) = does f below c rest
frame_next f below (leave r ∷ rest) = leaves f below r rest

-- what a task does next; where it has no frame it has ended
abbrev pub next : Task → Next
next (runs []) = nothing
next (runs (f ∷ below)) = frame_next f.fixed below f.todo
next (waits frames one two) = joins frames one two
