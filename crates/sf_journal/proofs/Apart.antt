-- Neighbours in a list of events: that they are of tasks whose paths diverge unless their order counts.
-- Names: `path-LAW` of paths, `goes-LAW` of what a step makes of its task, `above-WHICH` where the one of two neighbours
-- is of a task above the other's.
use Rattle.std.specs.Prelude.{◌≡◌, ◌⊎◌, List, [], ◌∷◌, ◌++◌, Some}
use Rattle.std.proofs.Common.{inl, inr, refl, sym, ap, ◌∙◌, subst}
use Rattle.std.proofs.lemmas.Option.{same_Some}
use Rattle.sf_base.specs.declared.path.Turn.{Turn}
use Rattle.sf_base.specs.declared.path.Turn.TheVariants.{Left as left, Right as right}
use Rattle.sf_core.specs.Machine.Config.{Item, Fixed, Frame, Task, runs, waits, Path, Common, Config, task_at, IsOver}
use Rattle.sf_core.specs.Machine.Next.{Next, does, leaves, returns, joins, nothing, next}
use Rattle.sf_core.specs.Checked.Machine.Laws.{Diverge, IsAbove, WaitsWith}
use Rattle.sf_core.specs.Machine.Step.{Event, Does, Goes, TaskStep, Step}
use Rattle.sf_core.specs.Program.Syntax.{Command, assign, look_up, mutate, new, dispose, if, while, call, fork, with, Program}
use Rattle.sf_core.proofs.Machine.InOrder.Trees.{task_at-put}
use Rattle.sf_core.proofs.Machine.Tasks.{task_at-above, task_at-running}
use Rattle.sf_trace.specs.Trace.{Depends, Forks, IsChild, Joins}

-- Paths
-- two paths are one, or the one is above the other, or they diverge
data Cases (path other : Path) : Type 0 where
  is_same : path ≡ other → Cases path other
  is_above : IsAbove path other → Cases path other
  is_below : IsAbove other path → Cases path other
  diverges : Diverge path other → Cases path other

path-cases : (path other : Path) → Cases path other
path-cases [] [] = is_same refl
path-cases [] (turn ∷ other) = is_above tt
path-cases (turn ∷ path) [] = is_below tt
path-cases (left ∷ path) (left ∷ other) = elim (path-cases path other) [
  | is_same e ↦ is_same (ap (λ z. left ∷ z) e)
  | is_above h ↦ is_above h
  | is_below h ↦ is_below h
  | diverges h ↦ diverges h
]
path-cases (left ∷ path) (right ∷ other) = diverges tt
path-cases (right ∷ path) (left ∷ other) = diverges tt
path-cases (right ∷ path) (right ∷ other) = elim (path-cases path other) [
  | is_same e ↦ is_same (ap (λ z. right ∷ z) e)
  | is_above h ↦ is_above h
  | is_below h ↦ is_below h
  | diverges h ↦ diverges h
]

-- a path below another is that with more turns
path-below : (path other : Path) → IsAbove path other
    → (turn : Turn) × (rest : Path) × (other ≡ path ++ turn ∷ rest)
path-below path [] h = absurd h
path-below [] (turn ∷ other) h = (turn, other, refl)
path-below (left ∷ path) (left ∷ other) h =
    let w = path-below path other h in (w.0, w.1, ap (λ z. left ∷ z) w.2)
path-below (left ∷ path) (right ∷ other) h = absurd h
path-below (right ∷ path) (left ∷ other) h = absurd h
path-below (right ∷ path) (right ∷ other) h =
    let w = path-below path other h in (w.0, w.1, ap (λ z. right ∷ z) w.2)

-- the task at a path with more turns is one of the task at that path
task_at-more : (path more : Path) (t u : Task) → task_at path t ≡ Some u → task_at (path ++ more) t ≡ task_at more u
task_at-more [] more t u e = ap (task_at more) (same_Some t u e)
task_at-more (left ∷ path) more (runs frames) u e = absurd (cc)
task_at-more (right ∷ path) more (runs frames) u e = absurd (cc)
task_at-more (left ∷ path) more (waits frames one two) u e = task_at-more path more one u e
task_at-more (right ∷ path) more (waits frames one two) u e = task_at-more path more two u e

-- below two children that run nothing waits
child-path : (turn : Turn) (rest : Path) (kept one two : List Frame) (task : Task)
    → task_at (turn ∷ rest) (waits kept (runs one) (runs two)) ≡ Some task → rest ≡ []
child-path left rest kept one two task e = task_at-running rest one task e
child-path right rest kept one two task e = task_at-running rest two task e

-- What a step makes of its task
-- the step is a fork, after which the task waits for children that run
record MakesChildren (what : Next) (u : Task) : Type 0 where
  fork : Forks what
  kept : List Frame
  one : List Frame
  two : List Frame
  is : u ≡ waits kept (runs one) (runs two)

does-or_forks : (p : Program) (ev : Event) (s t : Common) (f : Fixed) (below : List Frame) (c : Command)
    (rest : List Item) (u : Task) → Does p ev s f below c rest t u
    → ((frames : List Frame) × (u ≡ runs frames)) ⊎ MakesChildren (does f below c rest) u
does-or_forks p ev s t f below (assign place x e) rest u d = inl (_, d.1)
does-or_forks p ev s t f below (look_up place x e g) rest u d = inl (_, d.4)
does-or_forks p ev s t f below (mutate place e g v) rest u d = inl (_, d.4)
does-or_forks p ev s t f below (new place x) rest u d = inl (_, d.3)
does-or_forks p ev s t f below (dispose place e) rest u d = inl (_, d.4)
does-or_forks p ev s t f below (if place test this that) rest u d = elim d.1 [
  | inl h ↦ inl (_, h.1)
  | inr h ↦ inl (_, h.1)
]
does-or_forks p ev s t f below (while place test kept body) rest u d = elim d.1 [
  | inl h ↦ inl (_, h.1)
  | inr h ↦ inl (_, h.1)
]
does-or_forks p ev s t f below (call place c) rest u d = inl (_, d.3)
does-or_forks p ev s t f below (fork place c1 c2) rest u d = inr (record {
  fork = tt;
  kept = _;
  one = _;
  two = _;
  is = d.6;
})
does-or_forks p ev s t f below (with place r test body) rest u d = inl (_, d.3)

goes-or_forks : (p : Program) (ev : Event) (s t : Common) (n : Next) (u : Task) → Goes p ev s n t u
    → ((frames : List Frame) × (u ≡ runs frames)) ⊎ MakesChildren n u
goes-or_forks p ev s t (does f below c rest) u d = does-or_forks p ev s t f below c rest u d
goes-or_forks p ev s t (leaves f below r rest) u d = inl (_, d.2)
goes-or_forks p ev s t (returns f below) u d = inl (_, d.2)
goes-or_forks p ev s t (joins frames one two) u d = inl (_, d.3)
goes-or_forks p ev s t nothing u d = absurd d

-- below what a child that is over was there is nothing
over-path : (turn : Turn) (rest : Path) (frames : List Frame) (one two task : Task) → IsOver one → IsOver two
    → task_at (turn ∷ rest) (waits frames one two) ≡ Some task → rest ≡ []
over-path left rest frames (runs more) two task o q e = task_at-running rest more task e
over-path left rest frames (waits more x y) two task o q e = absurd o
over-path right rest frames one (runs more) task o q e = task_at-running rest more task e
over-path right rest frames one (waits more x y) task o q e = absurd q

-- Neighbours
module _ (p : Program) (one two : Event) (c d e : Config) (s : Step p one c d) (r : Step p two d e) where
  -- the first one's task, after its step
  first-there : task_at one.task d.tasks ≡ Some s.to
  first-there = ap (task_at one.task) s.tasks ∙ task_at-put one.task c.tasks s.from s.to s.there

  -- the second is of a task below the first one's: the first made it
  above-first : IsAbove one.task two.task → Forks (next s.from) × IsChild one.task two.task
  above-first h =
      let w = path-below one.task two.task h in
      let there : task_at (w.0 ∷ w.1) s.to ≡ Some r.from =
      sym (task_at-more one.task (w.0 ∷ w.1) d.tasks s.to first-there)
      ∙ ap (λ z. task_at z d.tasks) (sym w.2) ∙ r.there in
      elim (goes-or_forks p one c.common d.common (next s.from) s.to s.steps) [
        | inl k ↦ absurd (running w.0 w.1 k.0 (subst (λ z. task_at (w.0 ∷ w.1) z ≡ Some r.from) k.1 there))
        | inr k ↦
            let none = child-path w.0 w.1 k.kept k.one k.two r.from
            (subst (λ z. task_at (w.0 ∷ w.1) z ≡ Some r.from) k.is there) in
            (k.fork, (w.0, w.2 ∙ ap (λ z. one.task ++ w.0 ∷ z) none))
      ]
    where
      running : (turn : Turn) (rest : Path) (frames : List Frame) → task_at (turn ∷ rest) (runs frames) ≡ Some r.from
          → ⊥
      running left rest frames k = absurd (cc)
      running right rest frames k = absurd (cc)

  -- the first is of a task below the second one's: the second is its join
  above-second : IsAbove two.task one.task → Joins (next r.from) × IsChild two.task one.task
  above-second h =
      let k = task_at-above two.task one.task s.to c.tasks s.from s.there h in
      let frames = k.0 in
      let now : WaitsWith frames (task_at two.task d.tasks) =
      subst (λ z. WaitsWith frames (task_at two.task z)) (sym s.tasks) k.2 in
      let is : r.from ≡ waits frames now.0 now.1 = same_Some r.from (waits frames now.0 now.1) (sym r.there ∙ now.2) in
      let step : TaskStep p two d.common (waits frames now.0 now.1) e.common r.to =
      subst (λ z. TaskStep p two d.common z e.common r.to) is r.steps in
      let w = path-below two.task one.task h in
      let there : task_at (w.0 ∷ w.1) (waits frames now.0 now.1) ≡ Some s.to =
      sym (task_at-more two.task (w.0 ∷ w.1) d.tasks (waits frames now.0 now.1) now.2)
      ∙ ap (λ z. task_at z d.tasks) (sym w.2) ∙ first-there in
      let none = over-path w.0 w.1 frames now.0 now.1 s.to step.0 step.1 there in (
        subst Joins (sym (ap next is)) tt,
        (w.0, w.2 ∙ ap (λ z. two.task ++ w.0 ∷ z) none),
      )

  -- so their tasks diverge unless their order counts
  pub neighbours-diverge : (Depends (record { event = one; what = next s.from })
      (record { event = two; what = next r.from }) → ⊥) → Diverge one.task two.task
  neighbours-diverge free = elim (path-cases one.task two.task) [
    | is_same e ↦ absurd (free (inl e))
    | is_above h ↦ absurd (free (inr (inr (inl (above-first h)))))
    | is_below h ↦ absurd (free (inr (inr (inr (above-second h)))))
    | diverges h ↦ h
  ]
