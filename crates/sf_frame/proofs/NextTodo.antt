-- What a stack of frames does next, from the last entry of its innermost frame.
-- Names: `frame_LAW` speaks of that frame, `frames_LAW` of those below it.
use Rattle.std.specs.Prelude.{◌≡◌, ℕ, ◌==◌, ◌⊎◌, ◌↔◌, Bool, true, false, List, [], ◌∷◌, ◌++◌, length, IsTrue}
use Rattle.std.proofs.Common.{true≢false, sym, ap, ◌∙◌, refl, inl, inr, arith, length-append}
use Rattle.std.proofs.lemmas.Bool.Decides.{nat_tests}
use Rattle.sf_core.specs.Machine.Config.{Item, Frame}
use Rattle.sf_frame.specs.declared.frame.Frame.{Frame as CodeFrame}
use Rattle.sf_frame.specs.declared.todo.Todo.{Todo}
use Rattle.sf_frame.specs.Checked.Nexts.{frames_with}
use Rattle.sf_frame.specs.Frames.{items_of, todo_of, fixed_of, frame_of, frames_of}
use Rattle.sf_frame.proofs.Stacks.{todo_snoc}

-- a list of no length is empty
pub nothing_left : {A : Type 0} (xs : List A) → length xs ≡ 0 → xs ≡ []
nothing_left [] e = refl
nothing_left (x ∷ xs) e = absurd (omega (arith, e))

-- a frame without entries has nothing to do
pub frame_done : (f : CodeFrame) (xs : List Todo) (below : List Frame) → xs ≡ f.todo.items → length xs ≡ 0
    → frame_of f ∷ below ≡ frames_with (fixed_of f) [] below
frame_done f xs below e h =
    let none : todo_of f.todo.items ≡ [] = ap todo_of (sym e ∙ nothing_left xs h) in
    ap (λ (t : List Item). frames_with (fixed_of f) t below) none

-- the first thing to do is that of the last entry
pub frame_does : (f : CodeFrame) (xs rest : List Todo) (x : Todo) (i : Item) (more : List Item)
    (below : List Frame) → xs ≡ f.todo.items → xs ≡ rest ++ x ∷ [] → items_of x ≡ i ∷ more
    → frame_of f ∷ below ≡ frames_with (fixed_of f) (i ∷ (more ++ todo_of rest)) below
frame_does f xs rest x i more below e s h =
    let todo : todo_of f.todo.items ≡ i ∷ (more ++ todo_of rest) =
    ap todo_of (sym e ∙ s) ∙ todo_snoc rest x ∙ ap (λ (z : List Item). z ++ todo_of rest) h in
    ap (λ (t : List Item). frames_with (fixed_of f) t below) todo

-- there are as many frames as there are
pub frames_length : (xs : List CodeFrame) → length (frames_of xs) ≡ length xs
frames_length [] = refl
frames_length (x ∷ xs) = omega (arith, length-append (frames_of xs) (frame_of x ∷ []), frames_length xs)

-- none is below exactly where the test says so
pub frames_alone : (b : Bool) (below xs : List CodeFrame) → b ≡ (length xs == 0) → xs ≡ below
    → IsTrue b ↔ (frames_of below ≡ [])
frames_alone b below xs e s = (
  λ h.
      let none : length xs ≡ 0 = grind (arith, nat_tests) in
      ap frames_of (sym s ∙ nothing_left xs none),
  λ h.
      let none : length (frames_of below) ≡ 0 = ap length h in
      let zero : length xs ≡ 0 = ap length s ∙ sym (frames_length below) ∙ none in
      e ∙ ap (λ (z : ℕ). z == 0) zero,
)

-- a frame that is returned from isn't alone in the entry's task
pub not_alone : (alone entry : Bool) (P : Type 0) → IsTrue alone ↔ P → (entry ≡ false) ⊎ (alone ≡ false)
    → entry ≡ true → P → ⊥
not_alone alone entry P k (inl e) f p = true≢false (sym f ∙ e)
not_alone alone entry P k (inr e) f p = true≢false (sym (k.1 p) ∙ e)
