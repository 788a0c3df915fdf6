-- What is said of a tree of tasks, when another task is put at a path.
-- Names: `WHAT-put` of the tree with that task, `WHAT-at` of the task at a path.
use Rattle.std.specs.Prelude.{◌≡◌, ◌≢◌, ℕ, zero, suc, ◌+◌, Bool, List, [], ◌∷◌, Some, length}
use Rattle.std.proofs.Common.{sym, ap, ◌∙◌, refl, subst, inl, inr, arith}
use Rattle.std.proofs.lemmas.Option.{same_Some}
use Rattle.sf_base.specs.declared.ids.ResId.{ResId}
use Rattle.sf_base.specs.declared.path.Turn.{Turn}
use Rattle.sf_base.specs.declared.path.Turn.TheVariants.{Left as left, Right as right}
use Rattle.sf_base.specs.HeapStore.{Slot}
use Rattle.sf_core.specs.Machine.Config.{Fixed, IsCalled, Item, Frame, Task, runs, waits, Path, task_at, put_task}
use Rattle.sf_core.specs.Checked.Machine.InOrder.{EndsInEntry, EachStack, stack_of, regions, rooms_with, with_rooms, NamesInTree, WaitersHaveFrames, HasTurns}
use Rattle.sf_core.specs.Program.Syntax.{Procedure, Program}
use Rattle.sf_core.proofs.Machine.Progress.{path-or_not}

-- the task is at the path
pub task_at-put : (path : Path) (t from u : Task) → task_at path t ≡ Some from
    → task_at path (put_task path u t) ≡ Some u
task_at-put [] t from u e = refl
task_at-put (left ∷ path) (runs frames) from u e = absurd (cc)
task_at-put (right ∷ path) (runs frames) from u e = absurd (cc)
task_at-put (left ∷ path) (waits frames one two) from u e = task_at-put path one from u e
task_at-put (right ∷ path) (waits frames one two) from u e = task_at-put path two from u e

module _ (P : List Frame → Type 0) where
  -- what holds of each stack holds of those of the task at a path
  pub each-at : (path : Path) (t from : Task) → task_at path t ≡ Some from → EachStack P t → EachStack P from
  each-at [] t from e h = subst (EachStack P) (same_Some t from e) h
  each-at (left ∷ path) (runs frames) from e h = absurd (cc)
  each-at (right ∷ path) (runs frames) from e h = absurd (cc)
  each-at (left ∷ path) (waits frames one two) from e h = each-at path one from e h.1
  each-at (right ∷ path) (waits frames one two) from e h = each-at path two from e h.2

  -- and of the new tree where it holds of those of the task that is put
  pub each-put : (path : Path) (t u : Task) → EachStack P t → EachStack P u → EachStack P (put_task path u t)
  each-put [] t u h k = k
  each-put (left ∷ path) (runs frames) u h k = h
  each-put (right ∷ path) (runs frames) u h k = h
  each-put (left ∷ path) (waits frames one two) u h k = (h.0, each-put path one u h.1 k, h.2)
  each-put (right ∷ path) (waits frames one two) u h k = (h.0, h.1, each-put path two u h.2 k)

-- what holds of each stack becomes something else
pub each-map : {P Q : List Frame → Type 0} → ((frames : List Frame) → P frames → Q frames) → (t : Task)
    → EachStack P t → EachStack Q t
each-map f (runs frames) h = f frames h
each-map f (waits frames one two) h = (f frames h.0, each-map f one h.1, each-map f two h.2)

-- tasks that wait have frames
pub waiting-put : (path : Path) (t u : Task) → WaitersHaveFrames t → WaitersHaveFrames u
    → WaitersHaveFrames (put_task path u t)
waiting-put [] t u h k = k
waiting-put (left ∷ path) (runs frames) u h k = h
waiting-put (right ∷ path) (runs frames) u h k = h
waiting-put (left ∷ path) (waits frames one two) u h k = (h.0, waiting-put path one u h.1 k, h.2)
waiting-put (right ∷ path) (waits frames one two) u h k = (h.0, h.1, waiting-put path two u h.2 k)

-- the entry's task has the entry's frame at its bottom where what is put in its place has
pub bottom-put : (g : Procedure) (path : Path) (t u : Task) → (path ≡ [] → EndsInEntry g (stack_of (Some u)))
    → EndsInEntry g (stack_of (Some t)) → EndsInEntry g (stack_of (Some (put_task path u t)))
bottom-put g [] t u f h = f refl
bottom-put g (left ∷ path) (runs frames) u f h = h
bottom-put g (right ∷ path) (runs frames) u f h = h
bottom-put g (left ∷ path) (waits frames one two) u f h = h
bottom-put g (right ∷ path) (waits frames one two) u f h = h

-- the entry's task is the whole tree
pub bottom-at : (g : Procedure) (path : Path) (t from : Task) → path ≡ [] → task_at path t ≡ Some from
    → EndsInEntry g (stack_of (Some t)) → EndsInEntry g (stack_of (Some from))
bottom-at g path t from top e h = subst (λ z. EndsInEntry g (stack_of (Some z)))
    (same_Some t from (ap (λ z. task_at z t) (sym top) ∙ e)) h

-- what a frame has to do doesn't matter for that
pub bottom-todo : (g : Procedure) (f : Fixed) (old todo : List Item) (below : List Frame)
    → EndsInEntry g (record { fixed = f; todo = old } ∷ below)
    → EndsInEntry g (record { fixed = f; todo = todo } ∷ below)
bottom-todo g f old todo [] h = h
bottom-todo g f old todo (b ∷ below) h = h

-- a frame that is returned from isn't the last of the entry's task
pub bottom-return : (g : Procedure) (path : Path) (f : Frame) (below : List Frame) → IsCalled path below
    → path ≡ [] → EndsInEntry g (f ∷ below) → EndsInEntry g below
bottom-return g path f [] called top h = absurd (subst (λ z. IsCalled z []) top called)
bottom-return g path f (b ∷ below) called top h = h

-- the turns that are left at the path's end are enough for the task there
pub turns-put : (n : ℕ) (path : Path) (t from u : Task) → HasTurns n t → task_at path t ≡ Some from
    → ((m : ℕ) → n ≡ length path + m → HasTurns m u) → HasTurns n (put_task path u t)
turns-put n [] t from u h e k = k n (omega arith)
turns-put n (left ∷ path) (runs frames) from u h e k = absurd (cc)
turns-put n (right ∷ path) (runs frames) from u h e k = absurd (cc)
turns-put zero (turn ∷ path) (waits frames one two) from u h e k = absurd h
turns-put (suc n) (left ∷ path) (waits frames one two) from u h e k =
    (turns-put n path one from u h.0 e (λ m i. k m (omega arith)), h.1)
turns-put (suc n) (right ∷ path) (waits frames one two) from u h e k =
    (h.0, turns-put n path two from u h.1 e (λ m i. k m (omega arith)))

-- a path of the tree has no more turns
pub turns-at : (n : ℕ) (path : Path) (t from : Task) → HasTurns n t → task_at path t ≡ Some from
    → (m : ℕ) × (n ≡ length path + m)
turns-at n [] t from h e = (n, omega arith)
turns-at n (left ∷ path) (runs frames) from h e = absurd (cc)
turns-at n (right ∷ path) (runs frames) from h e = absurd (cc)
turns-at zero (turn ∷ path) (waits frames one two) from h e = absurd h
turns-at (suc n) (left ∷ path) (waits frames one two) from h e =
    let m = turns-at n path one from h.0 e in
    let i : n ≡ length path + m.0 = m.1 in
    (m.0, omega arith)
turns-at (suc n) (right ∷ path) (waits frames one two) from h e =
    let m = turns-at n path two from h.1 e in
    let i : n ≡ length path + m.0 = m.1 in
    (m.0, omega arith)

-- names stay in their scopes where those of the new task do
pub names-put : (p : Program) (scope : Slot → Bool) (path : Path) (t from u : Task)
    → task_at path t ≡ Some from → ((s : Slot → Bool) → NamesInTree p s from → NamesInTree p s u)
    → NamesInTree p scope t → NamesInTree p scope (put_task path u t)
names-put p scope [] t from u e f h = f scope (subst (NamesInTree p scope) (same_Some t from e) h)
names-put p scope (left ∷ path) (runs frames) from u e f h = absurd (cc)
names-put p scope (right ∷ path) (runs frames) from u e f h = absurd (cc)
names-put p scope (left ∷ path) (waits frames one two) from u e f h =
    (h.0, names-put p (with_rooms frames scope) path one from u e f h.1, h.2)
names-put p scope (right ∷ path) (waits frames one two) from u e f h =
    (h.0, h.1, names-put p (with_rooms frames scope) path two from u e f h.2)

-- the rooms of the new tree are those of the old one without those of the old task, and those of the new one
pub rooms-put : (slot : Slot) (path : Path) (t from u : Task) → task_at path t ≡ Some from
    → rooms_with slot (put_task path u t) + rooms_with slot from ≡ rooms_with slot t + rooms_with slot u
rooms-put slot [] t from u e =
    let same : rooms_with slot t ≡ rooms_with slot from = ap (rooms_with slot) (same_Some t from e) in
    omega arith
rooms-put slot (left ∷ path) (runs frames) from u e = absurd (cc)
rooms-put slot (right ∷ path) (runs frames) from u e = absurd (cc)
rooms-put slot (left ∷ path) (waits frames one two) from u e =
    let rest : rooms_with slot (put_task path u one) + rooms_with slot from
    ≡ rooms_with slot one + rooms_with slot u = rooms-put slot path one from u e in
    omega arith
rooms-put slot (right ∷ path) (waits frames one two) from u e =
    let rest : rooms_with slot (put_task path u two) + rooms_with slot from
    ≡ rooms_with slot two + rooms_with slot u = rooms-put slot path two from u e in
    omega arith

module _ (p : Program) (r : ResId) (u : Task) where
  regions-other : (other path : Path) (t from : Task) → task_at path t ≡ Some from → other ≢ path
      → ((turn : Turn) (rest : Path)
      → regions p r (stack_of (task_at (turn ∷ rest) u)) ≡ regions p r (stack_of (task_at (turn ∷ rest) from)))
      → regions p r (stack_of (task_at other (put_task path u t))) ≡ regions p r (stack_of (task_at other t))
  regions-other [] [] t from e n f = absurd (n refl)
  regions-other (turn ∷ other) [] t from e n f =
      f turn other ∙ ap (λ z. regions p r (stack_of (task_at (turn ∷ other) z))) (sym (same_Some t from e))
  regions-other other (left ∷ path) (runs frames) from e n f = absurd (cc)
  regions-other other (right ∷ path) (runs frames) from e n f = absurd (cc)
  regions-other [] (left ∷ path) (waits frames one two) from e n f = refl
  regions-other [] (right ∷ path) (waits frames one two) from e n f = refl
  regions-other (left ∷ other) (left ∷ path) (waits frames one two) from e n f =
      regions-other other path one from e (λ i. n (ap (λ z. left ∷ z) i)) f
  regions-other (right ∷ other) (left ∷ path) (waits frames one two) from e n f = refl
  regions-other (left ∷ other) (right ∷ path) (waits frames one two) from e n f = refl
  regions-other (right ∷ other) (right ∷ path) (waits frames one two) from e n f =
      regions-other other path two from e (λ i. n (ap (λ z. right ∷ z) i)) f

-- where the new task's regions are those of the old one, so are those of the tree
pub regions-put : (p : Program) (r : ResId) (path : Path) (t from u : Task) → task_at path t ≡ Some from
    → ((rest : Path) → regions p r (stack_of (task_at rest u)) ≡ regions p r (stack_of (task_at rest from)))
    → (other : Path)
    → regions p r (stack_of (task_at other (put_task path u t))) ≡ regions p r (stack_of (task_at other t))
regions-put p r path t from u e f other = elim (path-or_not other path) [
  | inr n ↦ regions-other p r u other path t from e n (λ turn rest. f (turn ∷ rest))
  | inl i ↦ ap (λ z. regions p r (stack_of (task_at z (put_task path u t)))) i
      ∙ ap (λ z. regions p r (stack_of z)) (task_at-put path t from u e) ∙ f []
      ∙ ap (λ z. regions p r (stack_of z)) (sym e) ∙ ap (λ z. regions p r (stack_of (task_at z t))) (sym i)
]

-- the regions of tasks at other paths, where both tasks run
pub regions-elsewhere : (p : Program) (r : ResId) (path : Path) (t : Task) (fs gs : List Frame) (other : Path)
    → task_at path t ≡ Some (runs fs) → other ≢ path
    → regions p r (stack_of (task_at other (put_task path (runs gs) t))) ≡ regions p r (stack_of (task_at other t))
regions-elsewhere p r path t fs gs other e n = regions-other p r (runs gs) other path t (runs fs) e n none
  where
    none : (turn : Turn) (rest : Path) → regions p r (stack_of (task_at (turn ∷ rest) (runs gs)))
        ≡ regions p r (stack_of (task_at (turn ∷ rest) (runs fs)))
    none left rest = refl
    none right rest = refl
