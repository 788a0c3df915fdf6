-- Children of forks: that none of their frames is of the procedure that sets the resources up, since no call names it.
-- Names: `WHAT-plain` of frames that don't, `WHAT-formed` of what comes next, `WHAT-children` of the tree.
use Rattle.std.specs.Prelude.{◌≡◌, false, List, [], ◌∷◌, Some}
use Rattle.std.specs.List.{AllByRecursion}
use Rattle.std.proofs.Common.{inl, inr, refl, sym, subst}
use Rattle.sf_base.specs.declared.ids.ProcId.{ProcId}
use Rattle.sf_base.specs.declared.path.Turn.TheVariants.{Left as left, Right as right}
use Rattle.sf_base.specs.HeapStore.{Heap, Store}
use Rattle.sf_core.specs.Machine.Config.{Item, command, leave, Fixed, Frame, Task, runs, waits, Path, Common, Config, task_at, put_task}
use Rattle.sf_core.specs.Machine.Next.{Next, does, leaves, returns, joins, nothing, frame_next, next}
use Rattle.sf_core.specs.Checked.Machine.InOrder.{EachStack, ItemWithin, FrameIsFormed, IsInOrder}
use Rattle.sf_core.specs.Machine.Start.{Start}
use Rattle.sf_core.specs.Machine.Step.{Event, Does, Goes, Step}
use Rattle.sf_core.specs.Program.Init.{sets_up}
use Rattle.sf_core.specs.Program.Formed.{CommandWithin}
use Rattle.sf_core.specs.Program.Syntax.{Command, assign, look_up, mutate, new, dispose, if, while, call, fork, with, Procedure, Program}
use Rattle.sf_core.proofs.Machine.InOrder.Trees.{each-at, each-put}

-- none of the frames sets the resources up
abbrev pub ArePlain : Program → List Frame → Type 0
ArePlain p frames = AllByRecursion (λ (f : Frame). sets_up p f.fixed.procedure ≡ false) frames

-- no child of a fork has such a frame
abbrev pub ChildrenArePlain : Program → Task → Type 0
ChildrenArePlain p (runs frames) = Unit {0}
ChildrenArePlain p (waits frames one two) = EachStack (ArePlain p) one × EachStack (ArePlain p) two

-- what comes next is of such frames
abbrev NextIsPlain : Program → Next → Type 0
NextIsPlain p (does f below c rest) = (sets_up p f.procedure ≡ false) × ArePlain p below
NextIsPlain p (leaves f below r rest) = (sets_up p f.procedure ≡ false) × ArePlain p below
NextIsPlain p (returns f below) = (sets_up p f.procedure ≡ false) × ArePlain p below
NextIsPlain p (joins frames one two) = ArePlain p frames
NextIsPlain p nothing = Unit {0}

-- a command that comes next is well formed
abbrev NextIsFormed : Program → Next → Type 0
NextIsFormed p (does f below c rest) = (g : Procedure) × CommandWithin p g c
NextIsFormed p (leaves f below r rest) = Unit {0}
NextIsFormed p (returns f below) = Unit {0}
NextIsFormed p (joins frames one two) = Unit {0}
NextIsFormed p nothing = Unit {0}

frame-formed : (p : Program) (f : Fixed) (below : List Frame) (todo : List Item) (g : Procedure)
    → AllByRecursion (ItemWithin p g) todo → NextIsFormed p (frame_next f below todo)
frame-formed p f below [] g h = tt
frame-formed p f below (command c ∷ rest) g h = (g, h.0)
frame-formed p f below (leave r ∷ rest) g h = tt

next-formed : (p : Program) (task : Task) → EachStack (AllByRecursion (FrameIsFormed p)) task
    → NextIsFormed p (next task)
next-formed p (runs []) h = tt
next-formed p (runs (f ∷ below)) h = frame-formed p f.fixed below f.todo (h.0).procedure (h.0).todo
next-formed p (waits frames one two) h = tt

frame-plain : (p : Program) (f : Fixed) (below : List Frame) (todo : List Item) → sets_up p f.procedure ≡ false
    → ArePlain p below → NextIsPlain p (frame_next f below todo)
frame-plain p f below [] h k = (h, k)
frame-plain p f below (command c ∷ rest) h k = (h, k)
frame-plain p f below (leave r ∷ rest) h k = (h, k)

next-plain : (p : Program) (task : Task) → EachStack (ArePlain p) task → NextIsPlain p (next task)
next-plain p (runs []) h = tt
next-plain p (runs (f ∷ below)) h = frame-plain p f.fixed below f.todo h.0 h.1
next-plain p (waits frames one two) h = h.0

-- What a step makes of its task
-- no frame of it sets the resources up where none did
does-plain : (p : Program) (ev : Event) (s t : Common) (f : Fixed) (below : List Frame) (c : Command)
    (rest : List Item) (u : Task) → Does p ev s f below c rest t u → sets_up p f.procedure ≡ false
    → ArePlain p below → (g : Procedure) → CommandWithin p g c → EachStack (ArePlain p) u
does-plain p ev s t f below (assign place x e) rest u d h k g w = subst (EachStack (ArePlain p)) (sym d.1) (h, k)
does-plain p ev s t f below (look_up place x e i) rest u d h k g w = subst (EachStack (ArePlain p)) (sym d.4) (h, k)
does-plain p ev s t f below (mutate place e i v) rest u d h k g w = subst (EachStack (ArePlain p)) (sym d.4) (h, k)
does-plain p ev s t f below (new place x) rest u d h k g w = subst (EachStack (ArePlain p)) (sym d.3) (h, k)
does-plain p ev s t f below (dispose place e) rest u d h k g w = subst (EachStack (ArePlain p)) (sym d.4) (h, k)
does-plain p ev s t f below (if place test this that) rest u d h k g w = elim d.1 [
  | inl m ↦ subst (EachStack (ArePlain p)) (sym m.1) (h, k)
  | inr m ↦ subst (EachStack (ArePlain p)) (sym m.1) (h, k)
]
does-plain p ev s t f below (while place test kept body) rest u d h k g w = elim d.1 [
  | inl m ↦ subst (EachStack (ArePlain p)) (sym m.1) (h, k)
  | inr m ↦ subst (EachStack (ArePlain p)) (sym m.1) (h, k)
]
does-plain p ev s t f below (call place c) rest u d h k g w =
    subst (EachStack (ArePlain p)) (sym d.3) (w.no_init, (h, k))
does-plain p ev s t f below (fork place one two) rest u d h k g w =
    subst (EachStack (ArePlain p)) (sym d.6) ((h, k), ((w.0).no_init, tt), ((w.1).no_init, tt))
does-plain p ev s t f below (with place r test body) rest u d h k g w =
    subst (EachStack (ArePlain p)) (sym d.3) (h, k)

goes-plain : (p : Program) (ev : Event) (s t : Common) (n : Next) (u : Task) → Goes p ev s n t u → NextIsPlain p n
    → NextIsFormed p n → EachStack (ArePlain p) u
goes-plain p ev s t (does f below c rest) u d h w = does-plain p ev s t f below c rest u d h.0 h.1 w.0 w.1
goes-plain p ev s t (leaves f below r rest) u d h w = subst (EachStack (ArePlain p)) (sym d.2) h
goes-plain p ev s t (returns f below) u d h w = subst (EachStack (ArePlain p)) (sym d.2) h.1
goes-plain p ev s t (joins frames one two) u d h w = subst (EachStack (ArePlain p)) (sym d.3) h
goes-plain p ev s t nothing u d h w = absurd d

-- and no child that it makes does, whatever the task
does-children : (p : Program) (ev : Event) (s t : Common) (f : Fixed) (below : List Frame) (c : Command)
    (rest : List Item) (u : Task) → Does p ev s f below c rest t u → (g : Procedure) → CommandWithin p g c
    → ChildrenArePlain p u
does-children p ev s t f below (assign place x e) rest u d g w = subst (ChildrenArePlain p) (sym d.1) tt
does-children p ev s t f below (look_up place x e i) rest u d g w = subst (ChildrenArePlain p) (sym d.4) tt
does-children p ev s t f below (mutate place e i v) rest u d g w = subst (ChildrenArePlain p) (sym d.4) tt
does-children p ev s t f below (new place x) rest u d g w = subst (ChildrenArePlain p) (sym d.3) tt
does-children p ev s t f below (dispose place e) rest u d g w = subst (ChildrenArePlain p) (sym d.4) tt
does-children p ev s t f below (if place test this that) rest u d g w = elim d.1 [
  | inl m ↦ subst (ChildrenArePlain p) (sym m.1) tt
  | inr m ↦ subst (ChildrenArePlain p) (sym m.1) tt
]
does-children p ev s t f below (while place test kept body) rest u d g w = elim d.1 [
  | inl m ↦ subst (ChildrenArePlain p) (sym m.1) tt
  | inr m ↦ subst (ChildrenArePlain p) (sym m.1) tt
]
does-children p ev s t f below (call place c) rest u d g w = subst (ChildrenArePlain p) (sym d.3) tt
does-children p ev s t f below (fork place one two) rest u d g w =
    subst (ChildrenArePlain p) (sym d.6) (((w.0).no_init, tt), ((w.1).no_init, tt))
does-children p ev s t f below (with place r test body) rest u d g w = subst (ChildrenArePlain p) (sym d.3) tt

goes-children : (p : Program) (ev : Event) (s t : Common) (n : Next) (u : Task) → Goes p ev s n t u
    → NextIsFormed p n → ChildrenArePlain p u
goes-children p ev s t (does f below c rest) u d w = does-children p ev s t f below c rest u d w.0 w.1
goes-children p ev s t (leaves f below r rest) u d w = subst (ChildrenArePlain p) (sym d.2) tt
goes-children p ev s t (returns f below) u d w = subst (ChildrenArePlain p) (sym d.2) tt
goes-children p ev s t (joins frames one two) u d w = subst (ChildrenArePlain p) (sym d.3) tt
goes-children p ev s t nothing u d w = absurd d

-- What is reached
-- the tree after a step
children-put : (p : Program) (path : Path) (t u : Task) → ChildrenArePlain p t
    → (path ≡ [] → ChildrenArePlain p u) → ((path ≡ [] → ⊥) → EachStack (ArePlain p) u)
    → ChildrenArePlain p (put_task path u t)
children-put p [] t u h k l = k refl
children-put p (left ∷ path) (runs frames) u h k l = tt
children-put p (right ∷ path) (runs frames) u h k l = tt
children-put p (left ∷ path) (waits frames one two) u h k l =
    (each-put (ArePlain p) path one u h.0 (l (λ e. absurd (cc))), h.1)
children-put p (right ∷ path) (waits frames one two) u h k l =
    (h.0, each-put (ArePlain p) path two u h.1 (l (λ e. absurd (cc))))

-- a task below the entry's has none of these frames
pub children-at : (p : Program) (path : Path) (t task : Task) → (path ≡ [] → ⊥) → task_at path t ≡ Some task
    → ChildrenArePlain p t → EachStack (ArePlain p) task
children-at p [] t task n e h = absurd (n refl)
children-at p (left ∷ path) (runs frames) task n e h = absurd (cc)
children-at p (right ∷ path) (runs frames) task n e h = absurd (cc)
children-at p (left ∷ path) (waits frames one two) task n e h = each-at (ArePlain p) path one task e h.0
children-at p (right ∷ path) (waits frames one two) task n e h = each-at (ArePlain p) path two task e h.1

-- each step keeps that
pub step-children : (p : Program) (entry : Procedure) (event : Event) (c d : Config) → IsInOrder p entry c
    → Step p event c d → ChildrenArePlain p c.tasks → ChildrenArePlain p d.tasks
step-children p entry event c d order s h =
    let formed = next-formed p s.from
    (each-at (AllByRecursion (FrameIsFormed p)) event.task c.tasks s.from s.there order.formed) in
    subst (ChildrenArePlain p) (sym s.tasks)
    (children-put p event.task c.tasks s.to h
    (λ top. goes-children p event c.common d.common (next s.from) s.to s.steps formed)
    (λ below. goes-plain p event c.common d.common (next s.from) s.to s.steps
    (next-plain p s.from (children-at p event.task c.tasks s.from below s.there h)) formed))

-- at a start there is no child
pub start-children : (p : Program) (f : ProcId) (store : Store) (heap : Heap) (c : Config) → Start p f store heap c
    → ChildrenArePlain p c.tasks
start-children p f store heap c s = subst (λ (z : Config). ChildrenArePlain p z.tasks) (sym s.is) tt

-- the next step of a task below the entry's isn't the return that sets the resources up
pub next-not_settling : (p : Program) (f : Fixed) (below : List Frame) (task : Task) → EachStack (ArePlain p) task
    → next task ≡ returns f below → sets_up p f.procedure ≡ false
next-not_settling p f below task h e = go (next task) e (next-plain p task h)
  where
    go : (n : Next) → n ≡ returns f below → NextIsPlain p n → sets_up p f.procedure ≡ false
    go n e h = (subst (NextIsPlain p) e h).0
