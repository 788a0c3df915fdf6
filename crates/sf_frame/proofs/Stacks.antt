-- Stacks with the top last, and the slots of a frame's own variables.
-- Names: `KIND_LAW`, where KIND is `todo`, `frames` or `own_slot`.
use Rattle.std.specs.Prelude.{◌≡◌, ℕ, zero, suc, ◌+◌, ◌-◌, ◌≤◌, ◌<◌, List, [], ◌∷◌, ◌++◌, length, get_or}
use Rattle.std.proofs.Common.{sym, ap, ◌∙◌, refl, arith, append_assoc}
use Rattle.std.proofs.lemmas.List.{append-nil}
use Rattle.sf_base.specs.HeapStore.{own}
use Rattle.sf_core.specs.Machine.Config.{Item, command, leave, Frame}
use Rattle.sf_frame.specs.declared.frame.Frame.{Frame as CodeFrame}
use Rattle.sf_frame.specs.declared.frame.Room.{Room as CodeRoom}
use Rattle.sf_frame.specs.declared.frame.Way.TheVariants.{Past}
use Rattle.sf_frame.specs.declared.todo.Todo.{Todo}
use Rattle.sf_frame.specs.declared.spot.Spot.{Spot}
use Rattle.sf_frame.specs.Spots.{slot_of}
use Rattle.sf_frame.specs.Frames.{own_slot_in, items_of, todo_of, frame_of, frames_of, fixed_of}
use Rattle.sf_frame.specs.Checked.Frames.{after, goes_on, rest_of}

-- what is pushed is to be done first
pub todo_snoc : (xs : List Todo) (x : Todo) → todo_of (xs ++ x ∷ []) ≡ items_of x ++ todo_of xs
todo_snoc [] x = sym (append-nil (items_of x))
todo_snoc (y ∷ ys) x =
    ap (λ z. z ++ items_of y) (todo_snoc ys x) ∙ append_assoc (items_of x) (todo_of ys) (items_of y)

-- the frame that is pushed is the innermost
pub frames_snoc : (xs : List CodeFrame) (x : CodeFrame) → frames_of (xs ++ x ∷ []) ≡ frame_of x ∷ frames_of xs
frames_snoc [] x = refl
frames_snoc (y ∷ ys) x = ap (λ z. z ++ frame_of y ∷ []) (frames_snoc ys x)

-- a reference names what its slot is
pub own_slot_some : (ss : List Spot) (room : CodeRoom) (i : ℕ) (s : Spot) → i < length ss → s ≡ get_or ss i s
    → own_slot_in ss room i ≡ slot_of s
own_slot_some [] room i s l e = absurd (omega arith)
own_slot_some (t ∷ ts) room zero s l e = ap slot_of (sym e)
own_slot_some (t ∷ ts) room (suc i) s l e = own_slot_some ts room i s (omega arith) e

-- the others are in the room
pub own_slot_none : (ss : List Spot) (room : CodeRoom) (i : ℕ) → length ss ≤ i
    → own_slot_in ss room i ≡ own room.event (room.first + (i - length ss))
own_slot_none [] room i l = ap (λ z. own room.event (room.first + z)) (let none : i ≡ i - 0 = omega arith in none)
own_slot_none (t ∷ ts) room zero l = absurd (omega arith)
own_slot_none (t ∷ ts) room (suc i) l =
    own_slot_none ts room i (omega arith) ∙ ap (λ z. own room.event (room.first + z))
    (let one : i - length ts ≡ suc i - suc (length ts) = omega arith in one)

-- a frame whose parts are those is that frame
pub frame_same : (f : CodeFrame) (g : Frame) → (frame_of f).fixed ≡ g.fixed → (frame_of f).todo ≡ g.todo → frame_of f ≡ g
frame_same f g e h = λ i. record { fixed = e i; todo = h i }

-- a frame that was pushed is that above which the callee runs
pub called_frames : (callee f g : CodeFrame) (below new : List CodeFrame) → new ≡ below ++ g ∷ []
    → frame_of g ≡ after (frame_of f)
    → frame_of callee ∷ frames_of new ≡ frame_of callee ∷ after (frame_of f) ∷ frames_of below
called_frames callee f g below new e h =
    ap (λ z. frame_of callee ∷ z) (ap frames_of e ∙ frames_snoc below g ∙ ap (λ z. z ∷ frames_of below) h)

-- a frame that went past what was first to do is the one after it
pub after_same : (f : CodeFrame) (g : CodeFrame)
    → frame_of g ≡ record { fixed = fixed_of f; todo = goes_on Past (todo_of f.todo.items) }
    → frame_of g ≡ after (frame_of f)
after_same f g e = e ∙ (λ i. record { fixed = fixed_of f; todo = past (todo_of f.todo.items) i })
  where
    past : (todo : List Item) → goes_on Past todo ≡ rest_of todo
    past [] = refl
    past (command c ∷ todo) = refl
    past (leave r ∷ todo) = refl

-- the frames of a stack of one, and of two
pub frames_one : (f : CodeFrame) (below : List CodeFrame) → below ≡ []
    → frame_of f ∷ frames_of below ≡ frame_of f ∷ []
frames_one f below e = ap (λ z. frame_of f ∷ frames_of z) e

pub frames_two : (f g : CodeFrame) (none below : List CodeFrame) → none ≡ [] → below ≡ none ++ g ∷ []
    → frame_of f ∷ frames_of below ≡ frame_of f ∷ frame_of g ∷ []
frames_two f g none below n e = ap (λ z. frame_of f ∷ frames_of z) (e ∙ ap (λ z. z ++ g ∷ []) n)
