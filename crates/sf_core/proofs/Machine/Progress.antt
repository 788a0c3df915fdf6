-- That an enabled task steps, unless something named keeps it.
-- Names: `WHAT-or_stop` gives the step or what keeps it, `WHAT-stopped` that there is none, `WHAT-or_not` decides.
use Rattle.std.specs.Prelude.{◌≡◌, ◌≢◌, ℕ, false, List, [], ◌∷◌, Option, Some, None, ◌⊎◌, length}
use Rattle.std.proofs.Common.{sym, ap, ◌∙◌, refl, subst, inl, inr, arith}
use Rattle.std.proofs.lemmas.Bool.{cases_lt}
use Rattle.sf_base.proofs.Options.{some-none, some-or_none}
use Rattle.sf_base.specs.declared.limits.TheConstants.{TURNS}
use Rattle.sf_base.specs.declared.path.Turn.TheVariants.{Left as left, Right as right}
use Rattle.sf_base.specs.declared.value.Value.{Value}
use Rattle.sf_base.specs.declared.value.Value.TheVariants.{Nil as nil, Int as int, Loc as loc}
use Rattle.sf_core.specs.declared.command.Expr.{Expr}
use Rattle.sf_core.specs.Machine.Bad.{IsAbsent}
use Rattle.sf_core.specs.Machine.Config.{Item, Fixed, Frame, Task, Path, Common, Config, evaluate, task_at, put_task, adds}
use Rattle.sf_core.specs.Machine.Next.{Next, does, leaves, returns, joins, nothing, next}
use Rattle.sf_core.specs.Machine.Enabled.{IsShut, IsBlocked, IsEnabled, Thing, cell}
use Rattle.sf_base.specs.HeapStore.{Cell, Heap}
use Rattle.sf_core.specs.Checked.Machine.Laws.{CommandMakes, Makes, CommandStops, Stops}
use Rattle.sf_core.specs.Machine.Step.{Event, procedure_at, Finds, Does, Goes, TaskStep, Step}
use Rattle.sf_core.specs.Program.Syntax.{Command, assign, look_up, mutate, new, dispose, if, while, call, fork, with, Program}
use Rattle.sf_core.proofs.Assertions.Sat.{test-which}
use Rattle.sf_core.proofs.Machine.Tasks.{CanGo, enabled-can_go}

-- whether two paths are the same
pub path-or_not : (path other : Path) → (path ≡ other) ⊎ (path ≢ other)
path-or_not [] [] = inl refl
path-or_not [] (turn ∷ other) = inr (λ e. absurd (cc))
path-or_not (turn ∷ path) [] = inr (λ e. absurd (cc))
path-or_not (left ∷ path) (left ∷ other) =
    elim (path-or_not path other) [ inl e ↦ inl (ap (λ z. left ∷ z) e) | inr n ↦ inr (λ e. n (cc)) ]
path-or_not (left ∷ path) (right ∷ other) = inr (λ e. absurd (cc))
path-or_not (right ∷ path) (left ∷ other) = inr (λ e. absurd (cc))
path-or_not (right ∷ path) (right ∷ other) =
    elim (path-or_not path other) [ inl e ↦ inl (ap (λ z. right ∷ z) e) | inr n ↦ inr (λ e. n (cc)) ]

-- whether a resource is held by the task at that path
pub holder-or_not : (holder : Option Path) (path : Path) → (holder ≡ Some path) ⊎ (holder ≢ Some path)
holder-or_not None path = inr (λ e. absurd (cc))
holder-or_not (Some other) path =
    elim (path-or_not other path) [ inl e ↦ inl (ap Some e) | inr n ↦ inr (λ e. n (cc)) ]

-- a free resource, from one that isn't shut
free-of_open : (holder : Option Path) → (holder ≢ None → ⊥) → holder ≡ None
free-of_open None n = refl
free-of_open (Some path) n = absurd (n (λ e. absurd (cc)))

-- the cell at an expression, or it is absent
finds-or_not : (see : Expr → Value) (heap : Heap) (root : Expr)
    → ((location : ℕ) × (here : Cell) × Finds see heap root location here) ⊎ IsAbsent heap (see root)
finds-or_not see heap root = go (see root) refl
  where
    at : (a : ℕ) (o : Option Cell) → see root ≡ loc a → heap a ≡ o
        → ((location : ℕ) × (here : Cell) × Finds see heap root location here) ⊎ IsAbsent heap (see root)
    at a None e f = inr (subst (IsAbsent heap) (sym e) f)
    at a (Some k) e f = inl (a, k, record { is = e; there = f })

    go : (v : Value) → see root ≡ v
        → ((location : ℕ) × (here : Cell) × Finds see heap root location here) ⊎ IsAbsent heap (see root)
    go nil e = inr (subst (IsAbsent heap) (sym e) tt)
    go (int i) e = inr (subst (IsAbsent heap) (sym e) tt)
    go (loc a) e = at a (heap a) e refl

-- what is found at an expression is not absent
pub finds-not_absent : (see : Expr → Value) (heap : Heap) (root : Expr) (location : ℕ) (here : Cell)
    → Finds see heap root location here → IsAbsent heap (see root) → ⊥
finds-not_absent see heap root a k f n = some-none k (sym f.there ∙ subst (IsAbsent heap) f.is n)

module _ (p : Program) (ev : Event) (c : Config) where
  -- the cells that are made have locations that are absent, and not 0
  abbrev MayMake : (Thing → Type 0) → Type 0
  MayMake made = (location : ℕ) → made (cell location) → (location ≢ 0) × (c.common.heap location ≡ None)

  command-or_stop : (f : Fixed) (below : List Frame) (one : Command) (rest : List Item)
      → (IsShut c.common.held one → ⊥) → MayMake (CommandMakes p ev one)
      → ((t : Common) × (u : Task) × Does p ev c.common f below one rest t u) ⊎ CommandStops p ev.task c.common f one
  command-or_stop f below (assign place x e) rest s z = inl (_, _, (refl, refl))
  command-or_stop f below (look_up place x e g) rest s z =
      elim (finds-or_not (evaluate f.slots c.common.store) c.common.heap e)
      [ inl k ↦ inl (_, _, (k.0, k.1, k.2, refl, refl)) | inr a ↦ inr a ]
  command-or_stop f below (mutate place e g v) rest s z =
      elim (finds-or_not (evaluate f.slots c.common.store) c.common.heap e)
      [ inl k ↦ inl (_, _, (k.0, k.1, k.2, refl, refl)) | inr a ↦ inr a ]
  command-or_stop f below (new place x) rest s z = let m = z ev.at refl in inl (_, _, (m.0, m.1, refl, refl))
  command-or_stop f below (dispose place e) rest s z =
      elim (finds-or_not (evaluate f.slots c.common.store) c.common.heap e)
      [ inl k ↦ inl (_, _, (k.0, k.1, k.2, refl, refl)) | inr a ↦ inr a ]
  command-or_stop f below (if place test this that) rest s z =
      elim (test-which (evaluate f.slots c.common.store) test)
      [ inl h ↦ inl (_, _, (refl, inl (h, refl))) | inr h ↦ inl (_, _, (refl, inr (h, refl))) ]
  command-or_stop f below (while place test kept body) rest s z =
      elim (test-which (evaluate f.slots c.common.store) test)
      [ inl h ↦ inl (_, _, (refl, inl (h, refl))) | inr h ↦ inl (_, _, (refl, inr (h, refl))) ]
  command-or_stop f below (call place one) rest s z =
      elim (some-or_none (procedure_at p one.callee))
      [ inl g ↦ inl (_, _, (g.0, g.1, refl, refl)) | inr h ↦ inr h ]
  command-or_stop f below (fork place one two) rest s z =
      elim (cases_lt (length ev.task) TURNS) [
        | inr m ↦ inr (inl m)
        | inl l ↦ elim (some-or_none (procedure_at p one.callee)) [
          | inr h ↦ inr (inr (inl h))
          | inl g ↦ elim (some-or_none (procedure_at p two.callee))
              [ inr h ↦ inr (inr (inr h)) | inl k ↦ inl (_, _, (l, g.0, k.0, g.1, k.1, refl, refl)) ]
        ]
      ]
  command-or_stop f below (with place r test body) rest s z =
      elim (test-which (evaluate f.slots c.common.store) test)
      [ inl h ↦ inl (_, _, (free-of_open (c.common.held r) s, h, refl, refl)) | inr h ↦ inr h ]

  next-or_stop : (n : Next) → (IsBlocked c.common.held n → ⊥) → CanGo ev.task n → MayMake (Makes p ev n)
      → ((t : Common) × (u : Task) × Goes p ev c.common n t u) ⊎ Stops p ev.task c.common n
  next-or_stop (does f below one rest) b k z = command-or_stop f below one rest b z
  next-or_stop (leaves f below r rest) b k z =
      elim (holder-or_not (c.common.held r) ev.task) [ inl h ↦ inl (_, _, (h, refl, refl)) | inr h ↦ inr h ]
  next-or_stop (returns f below) b k z = inl (_, _, (k, refl, refl))
  next-or_stop (joins frames one two) b k z = inl (_, _, (k.0, k.1, refl, refl))
  next-or_stop nothing b k z = absurd k

  -- an enabled task steps, unless something named keeps it
  pub enabled-or_stop : (task : Task) → IsEnabled c ev.task task → c.used ev.number ≡ false
      → MayMake (Makes p ev (next task))
      → ((d : Config) × Step p ev c d) ⊎ Stops p ev.task c.common (next task)
  enabled-or_stop task e fresh z =
      elim (next-or_stop (next task) e.free (enabled-can_go c ev.task task e) z) [
        | inl k ↦ inl (
          record { common = k.0; used = adds ev.number c.used; tasks = put_task ev.task k.1 c.tasks },
          record {
            fresh = fresh;
            used = refl;
            from = task;
            to = k.1;
            there = e.there;
            steps = k.2;
            tasks = refl;
          },
        )
        | inr h ↦ inr h
      ]

  command-stopped : (f : Fixed) (below : List Frame) (one : Command) (rest : List Item) (t : Common)
      (u : Task) → CommandStops p ev.task c.common f one → Does p ev c.common f below one rest t u → ⊥
  command-stopped f below (assign place x e) rest t u s d = s
  command-stopped f below (look_up place x e g) rest t u s d =
      finds-not_absent (evaluate f.slots c.common.store) c.common.heap e d.0 d.1 d.2 s
  command-stopped f below (mutate place e g v) rest t u s d =
      finds-not_absent (evaluate f.slots c.common.store) c.common.heap e d.0 d.1 d.2 s
  command-stopped f below (new place x) rest t u s d = s
  command-stopped f below (dispose place e) rest t u s d =
      finds-not_absent (evaluate f.slots c.common.store) c.common.heap e d.0 d.1 d.2 s
  command-stopped f below (if place test this that) rest t u s d = s
  command-stopped f below (while place test kept body) rest t u s d = s
  command-stopped f below (call place one) rest t u s d = some-none d.0 (sym d.1 ∙ s)
  command-stopped f below (fork place one two) rest t u (inl m) d = absurd (omega (arith, m, d.0))
  command-stopped f below (fork place one two) rest t u (inr (inl s)) d = some-none d.1 (sym d.3 ∙ s)
  command-stopped f below (fork place one two) rest t u (inr (inr s)) d = some-none d.2 (sym d.4 ∙ s)
  command-stopped f below (with place r test body) rest t u s d = s d.1

  next-stopped : (n : Next) (t : Common) (u : Task) → Stops p ev.task c.common n → Goes p ev c.common n t u → ⊥
  next-stopped (does f below one rest) t u s d = command-stopped f below one rest t u s d
  next-stopped (leaves f below r rest) t u s d = s d.0
  next-stopped (returns f below) t u s d = s
  next-stopped (joins frames one two) t u s d = s
  next-stopped nothing t u s d = s

  -- a task that something named keeps from it doesn't step
  pub step-stopped : (d : Config) (task : Task) → task_at ev.task c.tasks ≡ Some task
      → Stops p ev.task c.common (next task) → Step p ev c d → ⊥
  step-stopped d task e s step =
      let same : step.from ≡ task = cc (step.there, e) in
      next-stopped (next task) d.common step.to s
      (subst (λ z. TaskStep p ev c.common z d.common step.to) same step.steps)
