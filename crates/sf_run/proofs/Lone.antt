-- That a lone task stays one: what an event makes of its frames.
-- Names: `WHAT-lone`.
use Rattle.std.specs.Prelude.{◌≡◌, ◌⊎◌, List, [], ◌∷◌, ◌++◌, Some, None, Contains}
use Rattle.std.specs.List.{AllByRecursion}
use Rattle.std.proofs.Common.{sym, ap, ◌∙◌, refl, subst, inl, inr}
use Rattle.std.proofs.lemmas.List.Elements.{Contains-append_left, Contains-append_right}
use Rattle.sf_base.proofs.Elements.{contains-cons}
use Rattle.sf_base.specs.declared.ids.ProcId.{ProcId}
use Rattle.sf_base.specs.declared.path.Turn.TheVariants.{Left as left, Right as right}
use Rattle.sf_base.specs.declared.place.Place.{Place}
use Rattle.sf_base.specs.HeapStore.{Heap, Store}
use Rattle.sf_core.specs.Machine.Config.{Item, command, leave, items, Room, Fixed, Frame, Task, runs, Path, Common, Config, task_at, put_task}
use Rattle.sf_core.specs.Machine.Next.{frame_next}
use Rattle.sf_core.specs.Machine.Reach.{Reach}
use Rattle.sf_core.specs.Machine.Start.{Beginning, settled, fresh, BeginsWith, first_frames, Start}
use Rattle.sf_core.specs.Machine.Step.{Event, callee_frame, task_with, procedure_at, room_for, Does, Goes, TaskStep, Step}
use Rattle.sf_core.specs.Program.Heads.{sites}
use Rattle.sf_core.specs.Program.Syntax.{Call, Command, assign, look_up, mutate, new, dispose, if, while, call, fork, with, Block, Procedure, Program}
use Rattle.sf_calls.specs.Conditions.{Calls}
use Rattle.sf_calls.specs.Reaches.{directly, through}
use Rattle.sf_run.specs.Checked.Lone.{inside, IsOfBody, IsLoneFrame, IsLone}
use Rattle.sf_run.specs.Sequential.{BeginsSequentially, IsSequential}
use Rattle.sf_run.proofs.Bodies.{site-here, site-inner, block-of_body, whole-of_body}

-- what an event makes of a frame above others: the frame goes on with that to do
pub record GoesOn (f : Fixed) (body : Block) (below : List Frame) (u : Task) : Type 0 where
  pub todo : List Item
  pub of_body : IsOfBody body todo
  pub is : u ≡ task_with f todo below

-- or it calls, from that place of its body
pub record CallsOne (p : Program) (f : Fixed) (body : Block) (below : List Frame) (u : Task) : Type 0 where
  pub place : Place
  pub c : Call
  pub g : Procedure
  pub room : Room
  pub rest : List Item
  pub there : procedure_at p c.callee ≡ Some g
  pub at : Contains (sites [] body) (record { entered = inside rest; command = call place c })
  pub of_body : IsOfBody body rest
  pub is : u ≡ runs (callee_frame f.slots c g room ∷ record { fixed = f; todo = rest } ∷ below)

-- or it returns
abbrev pub Shape : Program → Fixed → Block → List Frame → Task → Type 0
Shape p f body below u = GoesOn f body below u ⊎ (CallsOne p f body below u ⊎ (u ≡ runs below))

module _ (p : Program) (ev : Event) (s t : Common) (f : Fixed) (g : Procedure)
    (there : procedure_at p f.procedure ≡ Some g) (sequential : IsSequential p f.procedure) where
  -- a parallel call of the body is none
  fork-none : (around : List _) (place : Place) (c d : Call)
      → Contains (sites [] g.body) (record { entered = around; command = fork place c d }) → ⊥
  fork-none around place c d at =
      sequential (directly (g, there, (_, at, ((c, d), (contains-cons (c, d) [] (c, d)).1 (inl refl)))))

  goes-on : (below : List Frame) (todo : List Item) (u : Task) → IsOfBody g.body todo
      → u ≡ task_with f todo below → Shape p f g.body below u
  goes-on below todo u k e = inl (record { todo = todo; of_body = k; is = e })

  command-shape : (below : List Frame) (c : Command) (rest : List Item) (u : Task)
      → IsOfBody g.body (command c ∷ rest) → Does p ev s f below c rest t u → Shape p f g.body below u
  command-shape below (assign place x e) rest u k d = goes-on below rest u k.1 d.1
  command-shape below (look_up place x e field) rest u k d = goes-on below rest u k.1 d.4
  command-shape below (mutate place e field v) rest u k d = goes-on below rest u k.1 d.4
  command-shape below (new place x) rest u k d = goes-on below rest u k.1 d.3
  command-shape below (dispose place e) rest u k d = goes-on below rest u k.1 d.4
  command-shape below (if place test this that) rest u k d = elim d.1 [
    | inl h ↦ goes-on below (items this ++ rest) u (block-of_body g.body this rest
        (λ z m. k.0 z (site-inner (inside rest) (if place test this that) z
        (Contains-append_left (sites (inside rest) this) (sites (inside rest) that) z m))) k.1) h.1
    | inr h ↦ goes-on below (items that ++ rest) u (block-of_body g.body that rest
        (λ z m. k.0 z (site-inner (inside rest) (if place test this that) z
        (Contains-append_right (sites (inside rest) this) (sites (inside rest) that) z m))) k.1) h.1
  ]
  command-shape below (while place test kept body) rest u k d = elim d.1 [
    | inl h ↦ goes-on below (items body ++ (command (while place test kept body) ∷ rest)) u
        (block-of_body g.body body (command (while place test kept body) ∷ rest)
        (λ z m. k.0 z (site-inner (inside rest) (while place test kept body) z m)) k) h.1
    | inr h ↦ goes-on below rest u k.1 h.1
  ]
  command-shape below (call place c) rest u k d = inr (inl (record {
    place = place;
    c = c;
    g = d.0;
    room = room_for d.0 ev.number 0;
    rest = rest;
    there = d.1;
    at = k.0 _ (site-here (inside rest) (call place c));
    of_body = k.1;
    is = d.3;
  }))
  command-shape below (fork place c d) rest u k h =
      absurd (fork-none (inside rest) place c d (k.0 _ (site-here (inside rest) (fork place c d))))
  command-shape below (with place r test body) rest u k d =
      goes-on below (items body ++ (leave r ∷ rest)) u
      (block-of_body g.body body (leave r ∷ rest)
      (λ z m. k.0 z (site-inner (inside rest) (with place r test body) z m)) k.1) d.3

  -- what an event makes of a frame of such a procedure
  pub frame-shape : (below : List Frame) (todo : List Item) (u : Task) → IsOfBody g.body todo
      → Goes p ev s (frame_next f below todo) t u → Shape p f g.body below u
  frame-shape below [] u k d = inr (inr d.2)
  frame-shape below (command c ∷ rest) u k d = command-shape below c rest u k d
  frame-shape below (leave r ∷ rest) u k d = goes-on below rest u k d.2

-- what is called at a place of the body is called by the procedure
pub at-calls : (p : Program) (f : ProcId) (g : Procedure) (around : List _) (place : Place) (c : Call)
    → procedure_at p f ≡ Some g
    → Contains (sites [] g.body) (record { entered = around; command = call place c }) → Calls p None f c.callee
at-calls p f g around place c there at = (g, there, (_, at, (tt, (c, (contains-cons c [] c).1 (inl refl), refl))))

-- from what a procedure calls no more parallel calls can be reached
callee-sequential : (p : Program) (f h : ProcId) → IsSequential p f → Calls p None f h → IsSequential p h
callee-sequential p f h n calls r = n (through h calls r)

-- the frames after such an event
abbrev pub frames_of : (p : Program) (f : Fixed) (body : Block) (below : List Frame) (u : Task)
    → Shape p f body below u → List Frame
frames_of p f body below u (inl k) = record { fixed = f; todo = k.todo } ∷ below
frames_of p f body below u (inr (inl k)) =
    callee_frame f.slots k.c k.g k.room ∷ record { fixed = f; todo = k.rest } ∷ below
frames_of p f body below u (inr (inr e)) = below

pub shape-frames : (p : Program) (f : Fixed) (body : Block) (below : List Frame) (u : Task)
    → (k : Shape p f body below u) → u ≡ runs (frames_of p f body below u k)
shape-frames p f body below u (inl k) = k.is
shape-frames p f body below u (inr (inl k)) = k.is
shape-frames p f body below u (inr (inr e)) = e

-- they are lone
pub shape-lone : (p : Program) (f : Fixed) (below : List Frame) (g : Procedure) (u : Task)
    → procedure_at p f.procedure ≡ Some g → IsSequential p f.procedure → AllByRecursion (IsLoneFrame p) below
    → (k : Shape p f g.body below u) → AllByRecursion (IsLoneFrame p) (frames_of p f g.body below u k)
shape-lone p f below g u there n others (inl k) =
    (record { procedure = g; there = there; sequential = n; todo = k.of_body }, others)
shape-lone p f below g u there n others (inr (inl k)) = (
  record {
    procedure = k.g;
    there = k.there;
    sequential = callee-sequential p f.procedure (k.c).callee n
        (at-calls p f.procedure g (inside k.rest) k.place k.c there k.at);
    todo = whole-of_body (k.g).body;
  },
  (record { procedure = g; there = there; sequential = n; todo = k.of_body }, others),
)
shape-lone p f below g u there n others (inr (inr e)) = others

-- the one task that is there
pub path-lone : (path : Path) (frames : List Frame) (from : Task) → task_at path (runs frames) ≡ Some from
    → (path ≡ []) × (from ≡ runs frames)
path-lone [] frames from e = (refl, cc)
path-lone (left ∷ path) frames from e = absurd (cc)
path-lone (right ∷ path) frames from e = absurd (cc)

-- the step of a lone configuration is one of its frames
pub step-of_lone : (p : Program) (ev : Event) (c d : Config) (frames : List Frame) → c.tasks ≡ runs frames
    → Step p ev c d → (u : Task) × TaskStep p ev c.common (runs frames) d.common u × (d.tasks ≡ u)
step-of_lone p ev c d frames alone s =
    let at = path-lone ev.task frames s.from (sym (ap (task_at ev.task) alone) ∙ s.there) in (
      s.to,
      subst (λ z. TaskStep p ev c.common z d.common s.to) at.1 s.steps,
      s.tasks ∙ ap (λ z. put_task z s.to c.tasks) at.0,
    )

-- what an event makes of a lone task: it has a frame, and that goes on, calls or returns
pub record LoneStep (p : Program) (frames : List Frame) (d : Config) : Type 0 where
  pub f : Frame
  pub below : List Frame
  pub are : frames ≡ f ∷ below
  pub mine : IsLoneFrame p f
  pub others : AllByRecursion (IsLoneFrame p) below
  pub u : Task
  pub shape : Shape p f.fixed (mine.procedure).body below u
  pub tasks : d.tasks ≡ runs (frames_of p f.fixed (mine.procedure).body below u shape)

frames-step : (p : Program) (ev : Event) (c d : Config) (frames : List Frame) (u : Task)
    → AllByRecursion (IsLoneFrame p) frames → TaskStep p ev c.common (runs frames) d.common u → d.tasks ≡ u
    → LoneStep p frames d
frames-step p ev c d [] u k step e = absurd step
frames-step p ev c d (f ∷ below) u (mine, others) step e =
    let shape = frame-shape p ev c.common d.common f.fixed mine.procedure mine.there mine.sequential below f.todo u
    mine.todo step in
    record {
      f = f;
      below = below;
      are = refl;
      mine = mine;
      others = others;
      u = u;
      shape = shape;
      tasks = e ∙ shape-frames p f.fixed (mine.procedure).body below u shape;
    }

pub lone-step : (p : Program) (ev : Event) (c d : Config) (k : IsLone p c) → Step p ev c d
    → LoneStep p k.frames d
lone-step p ev c d k s =
    let one = step-of_lone p ev c d k.frames k.alone s in
    frames-step p ev c d k.frames one.0 k.each one.1 one.2

-- the configuration after it
abbrev pub after-lone : (p : Program) (frames : List Frame) (d : Config) → LoneStep p frames d → IsLone p d
after-lone p frames d s = record {
  frames = frames_of p (s.f).fixed ((s.mine).procedure).body s.below s.u s.shape;
  alone = s.tasks;
  each = shape-lone p (s.f).fixed s.below (s.mine).procedure s.u (s.mine).there (s.mine).sequential s.others s.shape;
}

pub step-lone : (p : Program) (ev : Event) (c d : Config) → IsLone p c → Step p ev c d → IsLone p d
step-lone p ev c d k s = after-lone p k.frames d (lone-step p ev c d k s)

-- the frames with which a procedure starts are
pub first-lone : (p : Program) (f : ProcId) (g : Procedure) (b : Beginning) (store : Store) (heap : Heap)
    → procedure_at p f ≡ Some g → BeginsWith b p g store heap → BeginsSequentially p f b
    → AllByRecursion (IsLoneFrame p) (first_frames b f g)
first-lone p f g settled store heap there begins n =
    (record { procedure = g; there = there; sequential = n; todo = whole-of_body g.body }, tt)
first-lone p f g (fresh m h) store heap there begins n = (
  record { procedure = h; there = begins.0; sequential = n.1; todo = whole-of_body h.body },
  (record { procedure = g; there = there; sequential = n.0; todo = whole-of_body g.body }, tt),
)

abbrev pub start-lone : (p : Program) (f : ProcId) (store : Store) (heap : Heap) (c : Config)
    → (s : Start p f store heap c) → BeginsSequentially p f s.beginning → IsLone p c
start-lone p f store heap c s n = record {
  frames = first_frames s.beginning f s.procedure;
  alone = ap (λ (z : Config). z.tasks) s.is;
  each = first-lone p f s.procedure s.beginning store heap s.there s.begins n;
}

pub reach-lone : (p : Program) (events : List Event) (c d : Config) → IsLone p c → Reach p c events d
    → IsLone p d
reach-lone p [] c d k r = subst (IsLone p) (sym r) k
reach-lone p (event ∷ events) c d k (between, s, r) =
    reach-lone p events between d (step-lone p event c between k s) r
