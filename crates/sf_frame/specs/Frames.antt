-- The frames of the code as those of the definitions.
-- Ordinary: stacks with the top last.
use Rattle.std.specs.Prelude.{ℕ, zero, suc, ◌+◌, List, [], ◌∷◌, ◌++◌, map}
use Rattle.sf_base.specs.declared.ids.Var.{Var}
use Rattle.sf_base.specs.declared.ids.Var.TheVariants.{Own as own_variable, Shared as shared_variable}
use Rattle.sf_base.specs.HeapStore.{Slot, shared, own}
use Rattle.sf_core.specs.declared.command.Command.{Command as CodeCommand}
use Rattle.sf_core.specs.Machine.Config.{Item, command, leave, Room, Fixed, Frame}
use Rattle.sf_core.specs.Program.View.{command_of}
use Rattle.sf_frame.specs.declared.spot.Spot.{Spot}
use Rattle.sf_frame.specs.Spots.{slot_of}
use Rattle.sf_frame.specs.declared.todo.Todo.{Todo}
use Rattle.sf_frame.specs.declared.todo.Todo.TheVariants.{Commands, Leave}
use Rattle.sf_frame.specs.declared.frame.Frame.{Frame as CodeFrame}
use Rattle.sf_frame.specs.declared.frame.Room.{Room as CodeRoom}
use Rattle.sf_frame.specs.declared.stack.Stack.{Stack}

-- the commands of a block, each as one thing to do
abbrev pub block_items : List CodeCommand → List Item
block_items = map (λ d. command (command_of d))

-- what one entry says is to be done
abbrev pub items_of : Todo → List Item
items_of (Commands c rest) = block_items (c.now ∷ rest.now)
items_of (Leave r) = leave r ∷ []

-- what the entries say, of which the last comes first
abbrev pub todo_of : List Todo → List Item
todo_of [] = []
todo_of (x ∷ xs) = todo_of xs ++ items_of x

-- the slot of a frame's own variable
abbrev pub own_slot_in : List Spot → CodeRoom → ℕ → Slot
own_slot_in [] room i = own room.event (room.first + i)
own_slot_in (s ∷ ss) room zero = slot_of s
own_slot_in (s ∷ ss) room (suc i) = own_slot_in ss room i

-- the slots of a frame's variables
abbrev pub slots_in : List Spot → CodeRoom → Var → Slot
slots_in ss room (own_variable i) = own_slot_in ss room i
slots_in ss room (shared_variable r i) = shared r i

-- a room
abbrev pub room_of : CodeRoom → Room
room_of r = record { event = r.event; first = r.first; count = r.count }

-- what stays of a frame
abbrev pub fixed_of : CodeFrame → Fixed
fixed_of f = record {
  procedure = f.procedure;
  slots = slots_in f.references.items f.room;
  room = room_of f.room;
}

-- a frame
abbrev pub frame_of : CodeFrame → Frame
frame_of f = record { fixed = fixed_of f; todo = todo_of f.todo.items }

-- the frames of a list, of which the last comes first
abbrev pub frames_of : List CodeFrame → List Frame
frames_of [] = []
frames_of (x ∷ xs) = frames_of xs ++ frame_of x ∷ []

-- the frames of a stack, the innermost first
abbrev pub stack_of : Stack → List Frame
stack_of s = frame_of s.frame ∷ frames_of s.below.items
