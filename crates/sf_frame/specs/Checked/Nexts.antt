-- What the code finds that a stack of frames does next.
-- Ordinary: a case of the stack, and what it has.
use Rattle.std.specs.Prelude.{◌≡◌, ◌≢◌, Bool, true, List, [], ◌∷◌}
use Rattle.sf_core.specs.Machine.Config.{Item, command, leave, Fixed, Frame}
use Rattle.sf_core.specs.Program.View.{command_of}
use Rattle.sf_frame.specs.declared.following.Next.{Next}
use Rattle.sf_frame.specs.declared.following.Next.TheVariants.{Does, Leaves, Returns, Done}
use Rattle.sf_frame.specs.Frames.{fixed_of, room_of}

-- the frames of a task whose innermost frame has that still to do
abbrev pub frames_with : Fixed → List Item → List Frame → List Frame
frames_with f todo below = record { fixed = f; todo = todo } ∷ below

-- the frames are the entry's one frame, which has nothing more to do
abbrev pub IsDone : Bool → List Frame → Type 0
IsDone entry [] = ⊥
IsDone entry (f ∷ []) = (entry ≡ true) × (f.todo ≡ [])
IsDone entry (f ∷ g ∷ below) = ⊥

-- the frames do that next
abbrev pub IsNext : List Frame → Bool → Next → Type 0
IsNext frames entry (Does f one) = (below : List Frame) × (rest : List Item)
    × (frames ≡ frames_with (fixed_of f.now) (command (command_of one.now) ∷ rest) below)
IsNext frames entry (Leaves r) = (f : Fixed) × (below : List Frame) × (rest : List Item)
    × (frames ≡ frames_with f (leave r ∷ rest) below)
IsNext frames entry (Returns g room) = (f : Fixed) × (below : List Frame) × (frames ≡ frames_with f [] below)
    × (f.room ≡ room_of room) × (entry ≡ true → below ≢ []) × (f.procedure ≡ g)
IsNext frames entry Done = IsDone entry frames
