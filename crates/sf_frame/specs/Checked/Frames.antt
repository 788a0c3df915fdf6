-- What a change makes of a stack of frames, and the room that it needs.
-- Ordinary: stacks with the top last.
use Rattle.std.specs.Prelude.{ℕ, ◌+◌, ◌≤◌, List, [], ◌∷◌, ◌++◌, Option, Some, None, vec_len, vec_capacity}
use Rattle.sf_core.specs.Machine.Config.{Item, command, items, leave, Room, Frame}
use Rattle.sf_core.specs.Program.Syntax.{Command, if, while, with}
use Rattle.sf_frame.specs.declared.frame.Way.{Way}
use Rattle.sf_frame.specs.declared.frame.Way.TheVariants.{Past, Into, Else}
use Rattle.sf_frame.specs.declared.stack.Change.{Change}
use Rattle.sf_frame.specs.declared.stack.Change.TheVariants.{GoOn as go_on, Call, Return}
use Rattle.sf_frame.specs.declared.stack.Stack.{Stack}
use Rattle.sf_frame.specs.Frames.{frame_of, stack_of}

-- all but the first
abbrev pub rest_of : List Item → List Item
rest_of [] = []
rest_of (x ∷ xs) = xs

-- the first slots of a room
abbrev pub first_slots : (event first count : ℕ) → Room
first_slots event first count = record { event = event; first = first; count = count }

-- what is to be done where a frame goes into the block of a command
abbrev pub goes_into : Command → List Item → List Item
goes_into (if place test this that) todo = items this ++ todo
goes_into (while place test kept body) todo =
    items body ++ (command (while place test kept body) ∷ todo)
goes_into (with place r test body) todo = items body ++ (leave r ∷ todo)
goes_into c todo = todo

-- where it goes into the other block of an `if`
abbrev pub goes_else : Command → List Item → List Item
goes_else (if place test this that) todo = items that ++ todo
goes_else c todo = todo

-- where it goes on that way
abbrev pub goes_on : Way → List Item → List Item
goes_on way [] = []
goes_on way (leave r ∷ todo) = todo
goes_on Past (command c ∷ todo) = todo
goes_on Into (command c ∷ todo) = goes_into c todo
goes_on Else (command c ∷ todo) = goes_else c todo

-- the frame with what comes after the first thing to do
abbrev pub after : Frame → Frame
after f = record { fixed = f.fixed; todo = rest_of f.todo }

-- what a change makes of the frames of a task
abbrev pub moved : Change → List Frame → List Frame
moved change [] = []
moved (go_on way) (f ∷ below) = record { fixed = f.fixed; todo = goes_on way f.todo } ∷ below
moved (Call callee) (f ∷ below) = frame_of callee ∷ after f ∷ below
moved Return (f ∷ below) = below

-- the frames of a stack, if there is one
abbrev pub frames_left : Option Stack → List Frame
frames_left None = []
frames_left (Some s) = stack_of s

-- the change is a call
abbrev pub IsCall : Change → Type 0
IsCall (go_on way) = ⊥
IsCall (Call callee) = Unit {0}
IsCall Return = ⊥

-- the stack has room for a change: for one frame more where a callee's comes above
abbrev pub HasRoom : Change → Stack → Type 0
HasRoom (go_on way) s = Unit {0}
HasRoom (Call callee) s = vec_len s.below + 1 ≤ vec_capacity s.below
HasRoom Return s = Unit {0}
