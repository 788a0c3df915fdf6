-- Whether the entry's task has ended, by its frames.
-- Names: `ended_LAW`.
use Rattle.std.specs.Prelude.{◌≡◌, ◌↔◌, ◌==◌, ℕ, true, false, Bool, IsTrue, List, [], ◌∷◌, ◌++◌, length}
use Rattle.std.proofs.Common.{true≢false, sym, ap, ◌∙◌, refl, arith, length-append}
use Rattle.std.proofs.lemmas.Bool.Decides.{nat_tests}
use Rattle.sf_core.specs.Machine.Config.{Frame, runs}
use Rattle.sf_core.specs.Machine.Enabled.{HasEnded}
use Rattle.sf_frame.specs.declared.frame.Frame.{Frame as CodeFrame}
use Rattle.sf_frame.proofs.NextTodo.{frames_alone}
use Rattle.sf_frame.specs.declared.todo.Todo.{Todo}
use Rattle.sf_frame.specs.declared.todo.Todo.TheVariants.{Commands, Leave}
use Rattle.sf_frame.specs.Frames.{frame_of, frames_of, items_of, todo_of}

-- a frame without entries has nothing to do, and one with entries has
pub ended_todo : (xs : List Todo) → (length xs ≡ 0) ↔ (todo_of xs ≡ [])
ended_todo [] = (λ e. refl, λ e. refl)
ended_todo (x ∷ xs) = (λ e. absurd (omega (arith, e)), λ e. absurd (some x (ap length e)))
  where
    some : (y : Todo) → length (todo_of xs ++ items_of y) ≡ 0 → ⊥
    some (Commands c rest) e =
        let two = length-append (todo_of xs) (items_of (Commands c rest)) in
        omega (arith, e, two)
    some (Leave r) e =
        let two = length-append (todo_of xs) (items_of (Leave r)) in
        omega (arith, e, two)

-- the entry's task has ended where it has one frame that has nothing to do
pub ended_frames : (f : Frame) (frames : List Frame) (alone : Bool) → (IsTrue alone ↔ (frames ≡ []))
    → HasEnded [] (runs (f ∷ frames)) ↔ (IsTrue alone × (f.todo ≡ []))
ended_frames f [] alone k = (λ h. (k.1 refl, h), λ h. h.1)
ended_frames f (g ∷ frames) alone k = (
  λ h. absurd h,
  λ h. absurd (let none : g ∷ frames ≡ [] = k.0 h.0 in omega (arith, ap length none)),
)

-- so has the task of the code
pub ended_then : (f : CodeFrame) (below : List CodeFrame) (xs : List CodeFrame) (ys : List Todo) (alone done : Bool)
    → alone ≡ (length xs == 0) → xs ≡ below → done ≡ (length ys == 0) → ys ≡ f.todo.items → alone ≡ true
    → IsTrue done ↔ HasEnded [] (runs (frame_of f ∷ frames_of below))
ended_then f below xs ys alone done e s g t on =
    let k = ended_frames (frame_of f) (frames_of below) alone (frames_alone alone below xs e s) in (
      λ h.
          let none : length ys ≡ 0 = grind (arith, nat_tests) in
          k.1 (on, (ended_todo f.todo.items).0 (sym (ap length t) ∙ none)),
      λ h.
          let none : length ys ≡ 0 = ap length t ∙ (ended_todo f.todo.items).1 (k.0 h).1 in
          g ∙ ap (λ (z : ℕ). z == 0) none,
    )

pub ended_else : (f : CodeFrame) (below : List CodeFrame) (xs : List CodeFrame) (alone : Bool)
    → alone ≡ (length xs == 0) → xs ≡ below → alone ≡ false
    → IsTrue alone ↔ HasEnded [] (runs (frame_of f ∷ frames_of below))
ended_else f below xs alone e s off =
    let k = ended_frames (frame_of f) (frames_of below) alone (frames_alone alone below xs e s) in
    (λ h. absurd (true≢false (sym h ∙ off)), λ h. (k.0 h).0)
