-- That steps of different tasks commute where they are independent.
-- Names: `WHAT-back` from what is read or written in one state to another, `agree-LAW` of states that agree on
-- a thing, `WHAT-commute`.
use Rattle.std.specs.Prelude.{◌≡◌, ℕ, ◌==◌, Bool, true, false, ◌||◌, [], ◌∷◌, Some, ◌⊎◌}
use Rattle.std.proofs.Common.{sym, ap, ◌∙◌, refl, subst, inl, inr}
use Rattle.sf_base.proofs.MapSplits.{map-same}
use Rattle.sf_base.specs.declared.ids.ResId.{ResId}
use Rattle.sf_base.specs.declared.path.Turn.TheVariants.{Left as left, Right as right}
use Rattle.sf_base.specs.HeapStore.{Slot, Store}
use Rattle.sf_core.specs.Machine.Config.{Fixed, Task, runs, waits, Path, Common, Config, task_at, put_task, adds}
use Rattle.sf_core.specs.Machine.Next.{Next, does, leaves, returns, joins, nothing, next}
use Rattle.sf_core.specs.Machine.Enabled.{Thing, variable, cell, IsCellAt, CommandReads, CommandWrites, Reads, Writes}
use Rattle.sf_core.specs.Checked.Machine.Laws.{Makes, ChangesOnlyFootprint, AgreeOn, AgreesOnReads, AgreesAfter, Diverge, AreIndependent}
use Rattle.sf_core.specs.Machine.Step.{Event, Goes, TaskStep, Step}
use Rattle.sf_core.specs.Program.Syntax.{Command, assign, look_up, mutate, new, dispose, if, while, call, fork, with, Program}
use Rattle.sf_core.proofs.Machine.Decided.{changes-or_not, moves-or_not}
use Rattle.sf_core.proofs.Machine.Locality.{evaluate-same, goes-local}
use Rattle.sf_core.proofs.Machine.Runs.{adds-fresh, adds-other}
use Rattle.sf_core.proofs.Machine.Steps.{next-footprint}
use Rattle.sf_core.proofs.Machine.Tasks.{task_at-other}

-- The same variables, the same footprint
module _ (s o : Store) where
  command-reads-back : (f : Fixed) (c : Command)
      → ((slot : Slot) → CommandReads f.slots s c (variable slot) → s slot ≡ o slot) → (thing : Thing)
      → CommandReads f.slots o c thing → CommandReads f.slots s c thing
  command-reads-back f (look_up place x e g) h thing (inl r) = inl r
  command-reads-back f (look_up place x e g) h thing (inr r) =
      inr (subst (λ z. IsCellAt z thing) (sym (evaluate-same f.slots s o e (λ slot i. h slot (inl i)))) r)
  command-reads-back f (assign place x e) h thing r = r
  command-reads-back f (mutate place e g v) h thing r = r
  command-reads-back f (new place x) h thing r = r
  command-reads-back f (dispose place e) h thing r = r
  command-reads-back f (if place test this that) h thing r = r
  command-reads-back f (while place test kept body) h thing r = r
  command-reads-back f (call place c) h thing r = r
  command-reads-back f (fork place c d) h thing r = r
  command-reads-back f (with place q test body) h thing r = r

  -- what an event reads in a state that agrees on the variables that it reads here, it reads here
  pub reads-back : (n : Next) → ((slot : Slot) → Reads s n (variable slot) → s slot ≡ o slot) → (thing : Thing)
      → Reads o n thing → Reads s n thing
  reads-back (does f below c rest) h thing r = command-reads-back f c h thing r
  reads-back (leaves f below q rest) h thing r = r
  reads-back (returns f below) h thing r = r
  reads-back (joins frames one two) h thing r = r
  reads-back nothing h thing r = r

  command-writes-back : (f : Fixed) (c : Command)
      → ((slot : Slot) → CommandReads f.slots s c (variable slot) → s slot ≡ o slot) → (thing : Thing)
      → CommandWrites f.slots o c thing → CommandWrites f.slots s c thing
  command-writes-back f (mutate place e g v) h thing w =
      subst (λ z. IsCellAt z thing) (sym (evaluate-same f.slots s o e (λ slot i. h slot (inl i)))) w
  command-writes-back f (dispose place e) h thing w =
      subst (λ z. IsCellAt z thing) (sym (evaluate-same f.slots s o e h)) w
  command-writes-back f (assign place x e) h thing w = w
  command-writes-back f (look_up place x e g) h thing w = w
  command-writes-back f (new place x) h thing w = w
  command-writes-back f (if place test this that) h thing w = w
  command-writes-back f (while place test kept body) h thing w = w
  command-writes-back f (call place c) h thing w = w
  command-writes-back f (fork place c d) h thing w = w
  command-writes-back f (with place q test body) h thing w = w

  -- and so with what it writes
  pub writes-back : (n : Next) → ((slot : Slot) → Reads s n (variable slot) → s slot ≡ o slot)
      → (thing : Thing) → Writes o n thing → Writes s n thing
  writes-back (does f below c rest) h thing w = command-writes-back f c h thing w
  writes-back (leaves f below q rest) h thing w = w
  writes-back (returns f below) h thing w = w
  writes-back (joins frames one two) h thing w = w
  writes-back nothing h thing w = w

-- Agreement
agree-sym : (s t : Common) (thing : Thing) → AgreeOn s t thing → AgreeOn t s thing
agree-sym s t (variable slot) h = sym h
agree-sym s t (cell location) h = sym h

agree-trans : (s t w : Common) (thing : Thing) → AgreeOn s t thing → AgreeOn t w thing → AgreeOn s w thing
agree-trans s t w (variable slot) h k = h ∙ k
agree-trans s t w (cell location) h k = h ∙ k

-- states that agree on everything are the same
common-same : (s t : Common) → ((thing : Thing) → AgreeOn s t thing) → ((r : ResId) → s.held r ≡ t.held r)
    → s ≡ t
common-same s t h k =
    let heaps : s.heap ≡ t.heap = map-same s.heap t.heap (λ a. h (cell a)) in
    let stores : s.store ≡ t.store = map-same s.store t.store (λ slot. h (variable slot)) in
    let holders : s.held ≡ t.held = map-same s.held t.held k in
    λ i. record { heap = heaps i; store = stores i; held = holders i }

-- what an event doesn't change is the same after it
pub footprint-leaves : (p : Program) (ev : Event) (n : Next) (s t : Common) → ChangesOnlyFootprint p ev n s t
    → (thing : Thing) → (Writes s.store n thing ⊎ Makes p ev n thing → ⊥) → AgreeOn t s thing
footprint-leaves p ev n s t f (variable slot) h =
    f.variables slot (record { unwritten = λ w. h (inl w); not_made = λ m. h (inr m) })
footprint-leaves p ev n s t f (cell location) h =
    f.cells location (record { unwritten = λ w. h (inl w); not_made = λ m. h (inr m) })

-- What is shared
module _ (p : Program) (one two : Event) (s t w : Common) (n k : Next) (u v : Task)
    (i : AreIndependent p one two s.store n k) (d : Goes p one s n t u) (e : Goes p two t k w v) where
  -- what the second event reads is the same after the first
  before-second : (thing : Thing) → Reads s.store k thing → AgreeOn t s thing
  before-second thing r =
      footprint-leaves p one n s t (next-footprint p one s t n u d) thing (λ x. i.first thing x (inl r))

  second-vars : (slot : Slot) → Reads s.store k (variable slot) → s.store slot ≡ t.store slot
  second-vars slot r = sym (before-second (variable slot) r)

  -- what it changes after the first event it changes before it
  second-back : (thing : Thing) → Writes t.store k thing ⊎ Makes p two k thing
      → Writes s.store k thing ⊎ Makes p two k thing
  second-back thing (inl x) = inl (writes-back s.store t.store k second-vars thing x)
  second-back thing (inr x) = inr x

  second-agrees : AgreesOnReads p two k t s
  second-agrees = record {
    read = λ thing r. before-second thing (reads-back s.store t.store k second-vars thing r);
    cells = λ a x. footprint-leaves p one n s t (next-footprint p one s t n u d) (cell a)
        (λ y. i.first (cell a) y (inr (second-back (cell a) x)));
    holders = λ r m. (next-footprint p one s t n u d).kept r (λ h. i.hands r h m);
  }

  -- where the second event leads to when it comes first
  pub middle : (m : Common) × Goes p two s k m v × AgreesAfter p two k t s w m
  middle = goes-local p two t w s k v e second-agrees

  middle-footprint : ChangesOnlyFootprint p two k s middle.0
  middle-footprint = next-footprint p two s middle.0 k v middle.1

  first-agrees : AgreesOnReads p one n s middle.0
  first-agrees = record {
    read = λ thing r. agree-sym middle.0 s thing
        (footprint-leaves p two k s middle.0 middle-footprint thing (λ x. i.second thing x r));
    cells = λ a x. agree-sym middle.0 s (cell a)
        (footprint-leaves p two k s middle.0 middle-footprint (cell a) (λ y. i.first (cell a) x (inr y)));
    holders = λ r m. sym (middle-footprint.kept r (λ h. i.hands r m h));
  }

  -- where the first event leads to from there
  end : (m : Common) × Goes p one middle.0 n m u × AgreesAfter p one n s middle.0 t m
  end = goes-local p one s t middle.0 n u d first-agrees

  first-vars : (slot : Slot) → Reads s.store n (variable slot) → s.store slot ≡ (middle.0).store slot
  first-vars slot r = first-agrees.read (variable slot) r

  -- each thing is in the end as it is in the other order
  end-thing : (thing : Thing) → AgreeOn end.0 w thing
  end-thing thing = elim (changes-or_not p one s.store n thing) [
    | inl x ↦ agree-trans end.0 t w thing (agree-sym t end.0 thing (end.2.things thing (inl x)))
        (agree-sym w t thing (footprint-leaves p two k t w (next-footprint p two t w k v e) thing
        (λ y. i.first thing x (inr (second-back thing y)))))
    | inr x ↦ agree-trans end.0 middle.0 w thing
        (footprint-leaves p one n middle.0 end.0 (next-footprint p one middle.0 end.0 n u end.1) thing
        (λ y. x (elim y [
          | inl z ↦ inl (writes-back s.store (middle.0).store n first-vars thing z)
          | inr z ↦ inr z
        ])))
        (agree-sym w middle.0 thing (middle.2.things thing
        (inr (footprint-leaves p one n s t (next-footprint p one s t n u d) thing x))))
  ]

  -- and so is the holder of each resource
  end-holder : (r : ResId) → (end.0).held r ≡ w.held r
  end-holder r = elim (moves-or_not p n r) [
    | inl m ↦ sym (end.2.holders r (inl m))
        ∙ sym ((next-footprint p two t w k v e).kept r (λ h. i.hands r m h))
    | inr m ↦ (next-footprint p one middle.0 end.0 n u end.1).kept r m
        ∙ sym (middle.2.holders r (inr ((next-footprint p one s t n u d).kept r m)))
  ]

  -- independent events of different tasks commute
  pub goes-commute : (m : Common) × Goes p two s k m v × Goes p one m n w u
  goes-commute =
      (middle.0, middle.1, subst (λ z. Goes p one middle.0 n z u) (common-same end.0 w end-thing end-holder) end.1)

-- The tree
-- diverging is mutual
pub diverge-sym : (path other : Path) → Diverge path other → Diverge other path
diverge-sym [] other h = absurd h
diverge-sym (turn ∷ path) [] h = absurd h
diverge-sym (left ∷ path) (left ∷ other) h = diverge-sym path other h
diverge-sym (left ∷ path) (right ∷ other) h = tt
diverge-sym (right ∷ path) (left ∷ other) h = tt
diverge-sym (right ∷ path) (right ∷ other) h = diverge-sym path other h

-- tasks may be put at diverging paths in either order
put-commute : (path other : Path) (u v t : Task) → Diverge path other
    → put_task other v (put_task path u t) ≡ put_task path u (put_task other v t)
put-commute [] other u v t h = absurd h
put-commute (turn ∷ path) [] u v t h = absurd h
put-commute (left ∷ path) (left ∷ other) u v (runs frames) h = refl
put-commute (left ∷ path) (left ∷ other) u v (waits frames one two) h =
    ap (λ z. waits frames z two) (put-commute path other u v one h)
put-commute (left ∷ path) (right ∷ other) u v (runs frames) h = refl
put-commute (left ∷ path) (right ∷ other) u v (waits frames one two) h = refl
put-commute (right ∷ path) (left ∷ other) u v (runs frames) h = refl
put-commute (right ∷ path) (left ∷ other) u v (waits frames one two) h = refl
put-commute (right ∷ path) (right ∷ other) u v (runs frames) h = refl
put-commute (right ∷ path) (right ∷ other) u v (waits frames one two) h =
    ap (λ z. waits frames one z) (put-commute path other u v two h)

-- The numbers
or-swap : (a b c : Bool) → (a || (b || c)) ≡ (b || (a || c))
or-swap true true c = refl
or-swap true false c = refl
or-swap false b c = refl

-- numbers may be added in either order
adds-commute : (m n : ℕ) (used : ℕ → Bool) → adds n (adds m used) ≡ adds m (adds n used)
adds-commute m n used = λ i other. or-swap (other == n) (other == m) (used other) i

-- Configurations
pub step-commute : (p : Program) (one two : Event) (c d e : Config) (this that : Task)
    → task_at one.task c.tasks ≡ Some this → task_at two.task c.tasks ≡ Some that → Diverge one.task two.task
    → AreIndependent p one two c.common.store (next this) (next that) → Step p one c d → Step p two d e
    → (m : Config) × Step p two c m × Step p one m e
step-commute p one two c d e this that there also apart i s r =
    let from : s.from ≡ this = cc (there, s.there) in
    let other : task_at two.task d.tasks ≡ Some that =
    ap (task_at two.task) s.tasks
    ∙ task_at-other two.task one.task s.to c.tasks (diverge-sym one.task two.task apart) ∙ also in
    let after : r.from ≡ that = cc (other, r.there) in
    let first : TaskStep p one c.common this d.common s.to =
    subst (λ z. TaskStep p one c.common z d.common s.to) from s.steps in
    let second : TaskStep p two d.common that e.common r.to =
    subst (λ z. TaskStep p two d.common z e.common r.to) after r.steps in
    let m = goes-commute p one two c.common d.common e.common (next this) (next that) s.to r.to i first second in
    let new = adds-fresh two.number one.number c.used (ap (λ f. f two.number) (sym s.used) ∙ r.fresh) in (
      record { common = m.0; used = adds two.number c.used; tasks = put_task two.task r.to c.tasks },
      record {
        fresh = new.1;
        used = refl;
        from = that;
        to = r.to;
        there = also;
        steps = m.1;
        tasks = refl;
      },
      record {
        fresh = adds-other one.number two.number c.used (λ q. new.0 (sym q)) s.fresh;
        used = r.used ∙ ap (adds two.number) s.used ∙ adds-commute one.number two.number c.used;
        from = this;
        to = s.to;
        there = task_at-other one.task two.task r.to c.tasks apart ∙ there;
        steps = m.2;
        tasks = r.tasks ∙ ap (put_task two.task r.to) s.tasks
            ∙ put-commute one.task two.task s.to r.to c.tasks apart;
      },
    )
