-- No reached configuration is a circle of tasks that hold resources and wait for one another.
-- Names: `reach-fits` says what is kept, `held-nests` what it gives.
use Rattle.std.specs.Prelude.{◌≡◌, ◌≢◌, ◌⊎◌, ℕ, ◌+◌, ◌==◌, ◌<◌, Bool, true, false, cond, ◌&&◌, ltb, length, List, [], ◌∷◌, All, Some}
use Rattle.std.proofs.Common.{sym, refl, subst, inl, inr, arith}
use Rattle.std.proofs.lemmas.Bool.{ltb-true}
use Rattle.std.proofs.lemmas.Bool.Decides.{eqb_tells}
use Rattle.std.proofs.lemmas.List.Elements.{All-contains}
use Rattle.std.proofs.lemmas.Option.{same_Some}
use Rattle.sf_base.proofs.StoreSplits.{resource-same}
use Rattle.sf_base.specs.declared.ids.ProcId.{ProcId}
use Rattle.sf_base.specs.declared.ids.ResId.{ResId}
use Rattle.sf_base.specs.declared.place.Place.{Place}
use Rattle.sf_base.specs.declared.path.Turn.TheVariants.{Left as left, Right as right}
use Rattle.sf_base.specs.HeapStore.{Heap, Store}
use Rattle.sf_core.specs.declared.assertion.Test.{Test}
use Rattle.sf_core.specs.declared.command.Expr.{Expr}
use Rattle.sf_core.specs.Checked.Machine.InOrder.{exits, regions, stack_of, throughout, IsInOrder}
use Rattle.sf_core.specs.Machine.Config.{Item, command, leave, Fixed, Frame, Task, runs, waits, Path, Config, task_at}
use Rattle.sf_core.specs.Machine.HasThroughout.{HasThroughout, SetsUp}
use Rattle.sf_core.specs.Machine.Reach.{Reach}
use Rattle.sf_core.specs.Machine.SpentSteps.{is_at_or_above}
use Rattle.sf_core.specs.Machine.Start.{Beginning, settled, fresh, BeginsWith, Start, entry_frame, first_frames}
use Rattle.sf_core.specs.Machine.Step.{Event, procedure_at, task_with}
use Rattle.sf_core.specs.Program.Formed.{IsFormed}
use Rattle.sf_core.specs.Program.Init.{sets_up}
use Rattle.sf_core.specs.Program.Places.{place_of}
use Rattle.sf_core.specs.Program.Syntax.{with, Block, Procedure, Program}
use Rattle.sf_core.proofs.Machine.Laws.{reached_configs_are_in_order}
use Rattle.sf_calls.specs.declared.breach.Breach.TheVariants.{Reentered}
use Rattle.sf_calls.specs.Breaks.{Breaks}
use Rattle.sf_calls.specs.Checked.Lemmas.Broken.{first_broken}
use Rattle.sf_calls.specs.Checked.Lemmas.Least.{takes_within}
use Rattle.sf_calls.specs.Conditions.{Takes}
use Rattle.sf_calls.specs.FirstBreach.{Conditions}
use Rattle.sf_calls.specs.Reaches.{directly, through}
use Rattle.sf_order.specs.Circle.{Circle, IsHeldBefore}
use Rattle.sf_order.specs.Nests.{ArePairsOf, Nests}
use Rattle.sf_order.specs.Rank.{Rises, rank_in}
use Rattle.sf_order.specs.Checked.Fits.{AnyHolds, FramesFit, Leaves, SetterTakesNone, TaskFits}
use Rattle.sf_order.proofs.Fits.{block-leaves_none, fits-put, flat, frame-fits, task-step}
use Rattle.sf_order.proofs.Walks.{cycle-map, cycle-none}
use Rattle.sf_core.specs.Checked.Machine.Laws.{ReachedConfigsAreInOrder}

-- around the entry there is none
abbrev pub NoneAround : ResId → Type 0
NoneAround r = ⊥

-- neither of two that are nothing
neither : ⊥ ⊎ ⊥ → ⊥
neither (inl h) = h
neither (inr h) = h

module _ (p : Program) where
  -- what sets the resources up would enter again whatever it took
  pub setter-none : IsFormed p → Conditions p → SetterTakesNone p
  setter-none formed conditions f r q up takes = go takes
    where
      -- it has that resource too
      has : HasThroughout p f q
      has = inr (up.0, takes_within p formed f q takes)

      never : (place : Place) → Breaks p f (Reentered place q) → ⊥
      never place = (first_broken p formed).kept conditions f (Reentered place q)

      go : Takes p f q → ⊥
      go (directly (h, there, (s, m, region))) =
          never (place_of s.command) (h, there, (s, m, (inl has, inl (refl, region))))
      go (through g (h, there, (s, m, (tt, (d, c, e)))) t) =
          never d.place (
            h,
            there,
            (s, m, (inl has, inr (d, c, (refl, subst (λ (k : ProcId). Takes p k q) (sym e) t)))),
          )

module _ (p : Program) (none : SetterTakesNone p) where
  -- the first frames of a procedure that sets nothing up fit
  first-fit : (b : Beginning) (f : ProcId) (g : Procedure) (store : Store) (heap : Heap)
      → procedure_at p f ≡ Some g → ((r : ResId) → SetsUp p f r → ⊥) → BeginsWith b p g store heap
      → FramesFit p NoneAround (first_frames b f g)
  first-fit settled f g store heap there no_setter begins =
      (frame-fits p none f g there (λ r. ⊥ ⊎ ⊥) (λ r q m t. absurd (neither m)), tt)
  first-fit (fresh n h) f g store heap there no_setter begins = (
    frame-fits p none n h begins.0 (λ r. AnyHolds p (entry_frame f g ∷ []) r ⊎ ⊥) (λ r q m t. absurd (nothing r m)),
    (frame-fits p none f g there (λ r. ⊥ ⊎ ⊥) (λ r q m t. absurd (neither m)), tt),
  )
    where
      nothing : (r : ResId) → AnyHolds p (entry_frame f g ∷ []) r ⊎ ⊥ → ⊥
      nothing r (inl (inl m)) = block-leaves_none g.body r m
      nothing r (inl (inr (inl m))) = no_setter r m
      nothing r (inl (inr (inr m))) = m
      nothing r (inr m) = m

  -- a start fits
  pub start-fits : (f : ProcId) (store : Store) (heap : Heap) (c : Config) → Start p f store heap c
      → TaskFits p NoneAround c.tasks
  start-fits f store heap c s =
      subst (λ (d : Config). TaskFits p NoneAround d.tasks) (sym s.is)
      (first-fit s.beginning f s.procedure store heap s.there (λ r m. s.holds_none r (inr m)) s.begins)

  -- and so does what it leads to
  pub reach-fits : (events : List Event) (c d : Config) → TaskFits p NoneAround c.tasks → Reach p c events d
      → TaskFits p NoneAround d.tasks
  reach-fits [] c d h r = subst (λ (e : Config). TaskFits p NoneAround e.tasks) (sym r) h
  reach-fits (ev ∷ events) c d h (m, s, r) =
      reach-fits events m d
      (subst (TaskFits p NoneAround) (sym s.tasks)
      (fits-put p ev.task c.tasks s.from s.to s.there
      (task-step p none ev c.common m.common s.from s.to s.steps) NoneAround h)) r

-- a task that is inside of a region has still to leave it
exits-leaves : (r : ResId) (todo : List Item) → 0 < exits r todo → Leaves todo r
exits-leaves r [] h = absurd (omega (arith, h))
exits-leaves r (command c ∷ todo) h = exits-leaves r todo h
exits-leaves r (leave q ∷ todo) h = go (q.0 == r.0) refl h (exits-leaves r todo)
  where
    go : (b : Bool) → q.0 == r.0 ≡ b → 0 < cond b 1 0 + exits r todo → (0 < exits r todo → Leaves todo r)
        → (q ≡ r) ⊎ Leaves todo r
    go true e k more = inl (resource-same q r e)
    go false e k more = inr (more (omega (arith, k)))

-- a frame that has a resource apart from regions sets it up
throughout-sets_up : (p : Program) (r : ResId) (f : Fixed) → 0 < throughout p r f → SetsUp p f.procedure r
throughout-sets_up p r f h = go (sets_up p f.procedure) (ltb r.0 (length p.resources)) refl refl h
  where
    go : (a b : Bool) → sets_up p f.procedure ≡ a → ltb r.0 (length p.resources) ≡ b → 0 < cond (a && b) 1 0
        → SetsUp p f.procedure r
    go true true e i k = (e, ltb-true r.0 (length p.resources) i)
    go true false e i k = absurd (omega (arith, k))
    go false b e i k = absurd (omega (arith, k))

-- so where a task with these frames has a resource, one of them has still to leave its region, or sets it up
regions-holds : (p : Program) (r : ResId) (frames : List Frame) → 0 < regions p r frames → AnyHolds p frames r
regions-holds p r [] h = absurd (omega (arith, h))
regions-holds p r (f ∷ frames) h = elim (eqb_tells (exits r f.todo) 0) [
  | inl e ↦ elim (eqb_tells (throughout p r f.fixed) 0) [
    | inl i ↦
        let none : exits r f.todo ≡ 0 = e.1 in
        let apart : throughout p r f.fixed ≡ 0 = i.1 in
        inr (inr (regions-holds p r frames (omega (arith, h))))
    | inr i ↦
        let some : throughout p r f.fixed ≢ 0 = i.1 in
        inr (inl (throughout-sets_up p r f.fixed (omega arith)))
  ]
  | inr e ↦ let some : exits r f.todo ≢ 0 = e.1 in inl (exits-leaves r f.todo (omega arith))
]

module _ (p : Program) (r s : ResId) (f : Fixed) (place : Place) (test : Test Expr) (body : Block)
    (rest : List Item) (below : List Frame) where
  -- it stands at a region of s
  abbrev Standing : Task
  Standing = task_with f (command (with place s test body) ∷ rest) below

  -- where r is around a task or in its frames, s nests in it, at each region in the task or below it
  below-nests : (other : Path) (t : Task) (a : ResId → Type 0) → TaskFits p a t
      → AnyHolds p (stack_of (Some t)) r ⊎ a r → task_at other t ≡ Some Standing → Nests p r s
  below-nests [] t a h m e =
      let same : t ≡ Standing = same_Some t Standing e in
      let fits : TaskFits p a Standing = subst (TaskFits p a) same h in
      let holds : AnyHolds p (stack_of (Some Standing)) r ⊎ a r = subst
      (λ (u : Task). AnyHolds p (stack_of (Some u)) r ⊎ a r) same m in
      fits.0.0.0 r (flat holds)
  below-nests (left ∷ other) (runs frames) a h m e = absurd (cc)
  below-nests (right ∷ other) (runs frames) a h m e = absurd (cc)
  below-nests (left ∷ other) (waits frames one two) a h m e =
      below-nests other one (λ q. AnyHolds p frames q ⊎ a q) h.1 (inr m) e
  below-nests (right ∷ other) (waits frames one two) a h m e =
      below-nests other two (λ q. AnyHolds p frames q ⊎ a q) h.2 (inr m) e

  -- so where a task holds r, and it or a descendant stands at a region of s
  task-nests : (path other : Path) (t : Task) (a : ResId → Type 0) → TaskFits p a t
      → is_at_or_above path other ≡ true → AnyHolds p (stack_of (task_at path t)) r
      → task_at other t ≡ Some Standing → Nests p r s
  task-nests [] other t a h i m e = below-nests other t a h (inl m) e
  task-nests (left ∷ path) [] t a h i m e = absurd (cc)
  task-nests (right ∷ path) [] t a h i m e = absurd (cc)
  task-nests (left ∷ path) (right ∷ other) t a h i m e = absurd (cc)
  task-nests (right ∷ path) (left ∷ other) t a h i m e = absurd (cc)
  task-nests (left ∷ path) (left ∷ other) (runs frames) a h i m e = absurd (cc)
  task-nests (right ∷ path) (right ∷ other) (runs frames) a h i m e = absurd (cc)
  task-nests (left ∷ path) (left ∷ other) (waits frames one two) a h i m e =
      task-nests path other one (λ q. AnyHolds p frames q ⊎ a q) h.1 i m e
  task-nests (right ∷ path) (right ∷ other) (waits frames one two) a h i m e =
      task-nests path other two (λ q. AnyHolds p frames q ⊎ a q) h.2 i m e

-- a resource that is held before another one nests it
held-nests : (p : Program) (entry : Procedure) (c : Config) → IsInOrder p entry c → TaskFits p NoneAround c.tasks
    → (r s : ResId) → IsHeldBefore c r s → Nests p r s
held-nests p entry c o h r s b =
    let at = b.stands in
    let one : regions p r (stack_of (task_at b.holder c.tasks)) ≡ 1 = o.inside r b.holder b.held in
    task-nests p r s at.frame at.place at.test at.body at.rest at.below b.holder b.path c.tasks NoneAround h b.below
    (regions-holds p r (stack_of (task_at b.holder c.tasks)) (omega arith)) at.there

in_order : ReachedConfigsAreInOrder
in_order = reached_configs_are_in_order

-- where ranks rise along each pair, nothing that is reached is a circle
pub circle-none : (p : Program) (pairs : List (ResId × ResId)) (ranks : List ℕ) (f : ProcId) (store : Store)
    (heap : Heap) (start c : Config) (events : List Event) → IsFormed p → Conditions p → ArePairsOf p pairs
    → All (Rises ranks) pairs → Start p f store heap start → Reach p start events c → Circle c → ⊥
unfolding ReachedConfigsAreInOrder
circle-none p pairs ranks f store heap start c events formed conditions are rises s reach (rs, cycle) =
    let none : SetterTakesNone p = setter-none p formed conditions in
    cycle-none (Nests p) (rank_in ranks)
    (λ r q n. All-contains (Rises ranks) pairs (r, q) rises ((are.members (r, q)).1 n)) rs
    (cycle-map (IsHeldBefore c) (Nests p)
    (held-nests p s.procedure c (in_order p f store heap start c events formed s reach)
    (reach-fits p none events start c (start-fits p none f store heap start s) reach)) rs cycle)
