-- Frames of a task that runs, by what comes next: that says all of them.
-- Names: `next-shape` of those that do a command next, `leave-shape` of those that leave a region.
use Rattle.std.specs.Prelude.{◌≡◌, List, [], ◌∷◌}
use Rattle.std.proofs.Common.{ap, ◌∙◌, refl}
use Rattle.sf_base.specs.declared.ids.ResId.{ResId}
use Rattle.sf_core.specs.Machine.Config.{Item, command, leave, Fixed, Frame, runs}
use Rattle.sf_core.specs.Machine.Next.{Next, does, leaves, returns, joins, nothing, frame_next, next}
use Rattle.sf_core.specs.Program.Syntax.{Command}
use Rattle.sf_frame.specs.Checked.Nexts.{frames_with}

-- the frames that have that next
abbrev frames_at : Next → List Frame
frames_at (does f below c rest) = frames_with f (command c ∷ rest) below
frames_at (leaves f below r rest) = frames_with f (leave r ∷ rest) below
frames_at (returns f below) = frames_with f [] below
frames_at (joins frames one two) = frames
frames_at nothing = []

frame-at : (f : Fixed) (below : List Frame) (todo : List Item)
    → frames_with f todo below ≡ frames_at (frame_next f below todo)
frame-at f below [] = refl
frame-at f below (command c ∷ rest) = refl
frame-at f below (leave r ∷ rest) = refl

at-next : (frames : List Frame) → frames ≡ frames_at (next (runs frames))
at-next [] = refl
at-next (g ∷ others) = frame-at g.fixed others g.todo

-- the frames that do a command next
pub next-shape : (frames : List Frame) (f : Fixed) (below : List Frame) (c : Command)
    (rest : List Item) → next (runs frames) ≡ does f below c rest
    → frames ≡ frames_with f (command c ∷ rest) below
next-shape frames f below c rest e = at-next frames ∙ ap frames_at e

-- the frames that leave a region next
pub leave-shape : (frames : List Frame) (f : Fixed) (below : List Frame) (r : ResId)
    (rest : List Item) → next (runs frames) ≡ leaves f below r rest
    → frames ≡ frames_with f (leave r ∷ rest) below
leave-shape frames f below r rest e = at-next frames ∙ ap frames_at e
