-- The tree of tasks: what a step leaves of the others, which tasks step, and what keeps one from it.
-- Names: `task_at-WHAT` speaks of the tree, `enabled-WHAT` of enabled tasks, `step-WHAT` of a step.
use Rattle.std.specs.Prelude.{◌≡◌, ◌≢◌, List, [], ◌∷◌, Some, ◌⊎◌}
use Rattle.std.proofs.Common.{sym, ap, ◌∙◌, refl, subst, inl, inr}
use Rattle.sf_base.specs.declared.path.Turn.{Turn}
use Rattle.sf_base.specs.declared.path.Turn.TheVariants.{Left as left, Right as right}
use Rattle.sf_core.specs.Machine.Config.{Item, command, leave, Fixed, Frame, Task, runs, waits, Path, Common, Config, task_at, put_task, IsCalled, IsOver}
use Rattle.sf_core.specs.Machine.Enabled.{HasEnded, IsShut, IsBlocked, IsEnabled}
use Rattle.sf_core.specs.Machine.Next.{Next, does, leaves, returns, joins, nothing, frame_next, next}
use Rattle.sf_core.specs.Checked.Machine.Laws.{Diverge, IsAbove, WaitsWith, KeepsOthers}
use Rattle.sf_core.specs.Machine.Step.{Event, Does, Goes, TaskStep, Step}
use Rattle.sf_core.specs.Program.Syntax.{Command, with, Program}

-- what is put at one path leaves the tasks whose paths part from it
pub task_at-other : (other path : Path) (u t : Task) → Diverge other path
    → task_at other (put_task path u t) ≡ task_at other t
task_at-other [] path u t h = absurd h
task_at-other (turn ∷ other) [] u t h = absurd h
task_at-other (left ∷ other) (left ∷ path) u (runs frames) h = refl
task_at-other (left ∷ other) (left ∷ path) u (waits frames one two) h = task_at-other other path u one h
task_at-other (left ∷ other) (right ∷ path) u (runs frames) h = refl
task_at-other (left ∷ other) (right ∷ path) u (waits frames one two) h = refl
task_at-other (right ∷ other) (left ∷ path) u (runs frames) h = refl
task_at-other (right ∷ other) (left ∷ path) u (waits frames one two) h = refl
task_at-other (right ∷ other) (right ∷ path) u (runs frames) h = refl
task_at-other (right ∷ other) (right ∷ path) u (waits frames one two) h = task_at-other other path u two h

-- above a task there are tasks that wait, and what is put at its path leaves their frames
pub task_at-above : (other path : Path) (u t from : Task) → task_at path t ≡ Some from → IsAbove other path
    → (frames : List Frame) × WaitsWith frames (task_at other t)
    × WaitsWith frames (task_at other (put_task path u t))
task_at-above other [] u t from e h = absurd h
task_at-above [] (left ∷ path) u (runs frames) from e h = absurd (cc)
task_at-above [] (left ∷ path) u (waits frames one two) from e h =
    (frames, (one, two, refl), (put_task path u one, two, refl))
task_at-above [] (right ∷ path) u (runs frames) from e h = absurd (cc)
task_at-above [] (right ∷ path) u (waits frames one two) from e h =
    (frames, (one, two, refl), (one, put_task path u two, refl))
task_at-above (left ∷ other) (left ∷ path) u (runs frames) from e h = absurd (cc)
task_at-above (left ∷ other) (left ∷ path) u (waits frames one two) from e h =
    task_at-above other path u one from e h
task_at-above (left ∷ other) (right ∷ path) u t from e h = absurd h
task_at-above (right ∷ other) (left ∷ path) u t from e h = absurd h
task_at-above (right ∷ other) (right ∷ path) u (runs frames) from e h = absurd (cc)
task_at-above (right ∷ other) (right ∷ path) u (waits frames one two) from e h =
    task_at-above other path u two from e h

-- what a step leaves of the other tasks
pub step-frames : (p : Program) (event : Event) (c d : Config) → Step p event c d
    → KeepsOthers event.task c.tasks d.tasks
step-frames p event c d s = record {
  others = λ other h. ap (task_at other) s.tasks ∙ task_at-other other event.task s.to c.tasks h;
  ancestors = λ other h.
      let k = task_at-above other event.task s.to c.tasks s.from s.there h in
      (k.0, k.1, subst (λ z. WaitsWith k.0 (task_at other z)) (sym s.tasks) k.2);
}

-- a task that has ended makes no step
pub ended-no_step : (p : Program) (ev : Event) (s t : Common) (path : Path) → ev.task ≡ path → (task u : Task)
    → TaskStep p ev s task t u → HasEnded path task → ⊥
ended-no_step p ev s t path e (runs []) u d h = absurd d
ended-no_step p ev s t [] e (runs (f ∷ [])) u d h =
    let g : Goes p ev s (returns f.fixed []) t u =
    subst (λ z. Goes p ev s (frame_next f.fixed [] z) t u) h d in
    subst (λ z. IsCalled z []) e g.0
ended-no_step p ev s t [] e (runs (f ∷ g ∷ below)) u d h = absurd h
ended-no_step p ev s t (turn ∷ path) e (runs (f ∷ below)) u d h = absurd h
ended-no_step p ev s t path e (waits frames one two) u d h = absurd h

-- a command that has an event is no region whose resource is held
does-not_shut : (p : Program) (ev : Event) (s t : Common) (f : Fixed) (below : List Frame) (c : Command)
    (rest : List Item) (u : Task) → Does p ev s f below c rest t u → IsShut s.held c → ⊥
does-not_shut p ev s t f below (with place r test body) rest u d h = h d.0
does-not_shut p ev s t f below _ rest u d h = absurd h

-- what has an event needn't wait
pub goes-not_blocked : (p : Program) (ev : Event) (s t : Common) (n : Next) (u : Task) → Goes p ev s n t u
    → IsBlocked s.held n → ⊥
goes-not_blocked p ev s t (does f below c rest) u d h = does-not_shut p ev s t f below c rest u d h
goes-not_blocked p ev s t (leaves f below r rest) u d h = h
goes-not_blocked p ev s t (returns f below) u d h = h
goes-not_blocked p ev s t (joins frames one two) u d h = h (d.0, d.1)
goes-not_blocked p ev s t nothing u d h = h

-- only enabled tasks step
pub step-enabled : (p : Program) (event : Event) (c d : Config) → Step p event c d
    → (task : Task) × IsEnabled c event.task task
step-enabled p event c d s = (
  s.from,
  record {
    there = s.there;
    going = λ h. ended-no_step p event c.common d.common event.task refl s.from s.to s.steps h;
    free = λ h. goes-not_blocked p event c.common d.common (next s.from) s.to s.steps h;
  },
)

-- below a task that runs there is no other
pub task_at-running : (path : Path) (frames : List Frame) (task : Task)
    → task_at path (runs frames) ≡ Some task → path ≡ []
task_at-running [] frames task e = refl
task_at-running (left ∷ path) frames task e = absurd (cc)
task_at-running (right ∷ path) frames task e = absurd (cc)

-- where the entry has ended there is no other task
pub task_at-ended : (path : Path) (t task : Task) → HasEnded [] t → task_at path t ≡ Some task → path ≡ []
task_at-ended path (runs frames) task h e = task_at-running path frames task e
task_at-ended [] (waits frames one two) task h e = refl
task_at-ended (turn ∷ path) (waits frames one two) task h e = absurd h

-- once the entry has ended no event comes
pub ended-no_event : (p : Program) (event : Event) (c d : Config) → HasEnded [] c.tasks → Step p event c d → ⊥
ended-no_event p event c d h s =
    let top : event.task ≡ [] = task_at-ended event.task c.tasks s.from h s.there in
    let there : task_at [] c.tasks ≡ Some s.from = subst (λ z. task_at z c.tasks ≡ Some s.from) top s.there in
    let same : c.tasks ≡ s.from = cc in
    ended-no_step p event c.common d.common [] top s.from s.to s.steps (subst (HasEnded []) same h)

-- whether a child is over
over-or_not : (t : Task) → IsOver t ⊎ (IsOver t → ⊥)
over-or_not (runs []) = inl tt
over-or_not (runs (f ∷ below)) = inr (λ h. h)
over-or_not (waits frames one two) = inr (λ h. h)

-- a task that may go on: it has a frame, or both its children are over
abbrev pub MayGo : Task → Type 0
MayGo (runs []) = ⊥
MayGo (runs (f ∷ below)) = Unit {0}
MayGo (waits frames one two) = IsOver one × IsOver two

-- an enabled task may go on
pub enabled-may_go : (c : Config) (path : Path) (task : Task) → IsEnabled c path task → MayGo task
enabled-may_go c path (runs []) e = absurd (e.going tt)
enabled-may_go c path (runs (f ∷ below)) e = tt
enabled-may_go c path (waits frames one two) e =
    elim (over-or_not one) [
      | inr n ↦ absurd (e.free (λ h. n h.0))
      | inl a ↦ elim (over-or_not two) [ inr n ↦ absurd (e.free (λ h. n h.1)) | inl b ↦ (a, b) ]
    ]

-- what comes next has all that it needs of its own task and of its children
abbrev pub CanGo : Path → Next → Type 0
CanGo path (does f below c rest) = Unit {0}
CanGo path (leaves f below r rest) = Unit {0}
CanGo path (returns f below) = IsCalled path below
CanGo path (joins frames one two) = IsOver one × IsOver two
CanGo path nothing = ⊥

-- a frame goes on unless it is the entry's and has nothing more to do
frame-can_go : (path : Path) (f : Fixed) (below : List Frame) (todo : List Item)
    → (HasEnded path (runs (record { fixed = f; todo = todo } ∷ below)) → ⊥) → CanGo path (frame_next f below todo)
frame-can_go [] f [] [] n = absurd (n refl)
frame-can_go [] f (g ∷ below) [] n = tt
frame-can_go (turn ∷ path) f below [] n = tt
frame-can_go path f below (command c ∷ rest) n = tt
frame-can_go path f below (leave r ∷ rest) n = tt

-- an enabled task has that
pub enabled-can_go : (c : Config) (path : Path) (task : Task) → IsEnabled c path task
    → CanGo path (next task)
enabled-can_go c path (runs []) e = absurd (e.going tt)
enabled-can_go c path (runs (f ∷ below)) e = frame-can_go path f.fixed below f.todo e.going
enabled-can_go c path (waits frames one two) e = enabled-may_go c path (waits frames one two) e

-- nothing below a child that is over may go on
task_at-over : (path : Path) (t task : Task) → IsOver t → task_at path t ≡ Some task → MayGo task → ⊥
task_at-over [] (runs []) task o e m = let same : runs [] ≡ task = cc in subst MayGo (sym same) m
task_at-over [] (runs (f ∷ below)) task o e m = o
task_at-over [] (waits frames one two) task o e m = o
task_at-over (left ∷ path) (runs frames) task o e m = absurd (cc)
task_at-over (right ∷ path) (runs frames) task o e m = absurd (cc)
task_at-over (turn ∷ path) (waits frames one two) task o e m = absurd o

-- a task that may go on has no descendant that may
task_at-below : (turn : Turn) (path : Path) (t task : Task) → MayGo t → task_at (turn ∷ path) t ≡ Some task
    → MayGo task → ⊥
task_at-below left path (runs frames) task o e m = absurd (cc)
task_at-below right path (runs frames) task o e m = absurd (cc)
task_at-below left path (waits frames one two) task o e m = task_at-over path one task o.0 e m
task_at-below right path (waits frames one two) task o e m = task_at-over path two task o.1 e m

-- two different tasks that may go on are at paths that diverge
task_at-diverge : (t : Task) (path other : Path) (task another : Task) → task_at path t ≡ Some task
    → MayGo task → task_at other t ≡ Some another → MayGo another → path ≢ other → Diverge path other
task_at-diverge t [] [] task another a m b n d = absurd (d refl)
task_at-diverge t [] (turn ∷ other) task another a m b n d =
    let same : task ≡ t = cc in
    absurd (task_at-below turn other t another (subst MayGo same m) b n)
task_at-diverge t (turn ∷ path) [] task another a m b n d =
    let same : another ≡ t = cc in
    absurd (task_at-below turn path t task (subst MayGo same n) a m)
task_at-diverge (runs frames) (left ∷ path) (left ∷ other) task another a m b n d = absurd (cc)
task_at-diverge (waits frames one two) (left ∷ path) (left ∷ other) task another a m b n d =
    task_at-diverge one path other task another a m b n (λ e. d (ap (λ z. left ∷ z) e))
task_at-diverge t (left ∷ path) (right ∷ other) task another a m b n d = tt
task_at-diverge t (right ∷ path) (left ∷ other) task another a m b n d = tt
task_at-diverge (runs frames) (right ∷ path) (right ∷ other) task another a m b n d = absurd (cc)
task_at-diverge (waits frames one two) (right ∷ path) (right ∷ other) task another a m b n d =
    task_at-diverge two path other task another a m b n (λ e. d (ap (λ z. right ∷ z) e))

-- of two different enabled tasks neither is an ancestor of the other
pub enabled-diverge : (c : Config) (path other : Path) (task another : Task) → IsEnabled c path task
    → IsEnabled c other another → path ≢ other → Diverge path other
enabled-diverge c path other task another e f d =
    task_at-diverge c.tasks path other task another e.there (enabled-may_go c path task e) f.there
    (enabled-may_go c other another f) d
