-- Neighbours whose order doesn't count change places: from what is reached by events whose cells stand at their numbers.
-- Names: `reached-LAW` of what is kept, `makes-`, `moves-` of what a step makes and moves.
use Rattle.std.specs.Prelude.{◌≡◌, ◌≢◌, ◌⊎◌, ◌==◌, ℕ, true, false, List, [], ◌∷◌, ◌++◌, Some, None}
use Rattle.std.proofs.Common.{true≢false, inl, inr, refl, sym, ap, ◌∙◌, subst}
use Rattle.std.proofs.lemmas.Bool.{or_left, or_right}
use Rattle.std.proofs.lemmas.Option.{same_Some}
use Rattle.sf_base.proofs.HeapSplits.{at-self}
use Rattle.sf_base.specs.declared.ids.ResId.{ResId}
use Rattle.sf_base.specs.HeapStore.{Cell}
use Rattle.sf_core.specs.Machine.Config.{Fixed, Frame, Path, Config, task_at}
use Rattle.sf_core.specs.Machine.Enabled.{cell, Writes}
use Rattle.sf_core.specs.Machine.Next.{Next, does, leaves, returns, joins, nothing, next}
use Rattle.sf_core.specs.Checked.Machine.InOrder.{IsInOrder}
use Rattle.sf_core.specs.Checked.Machine.Laws.{CommandMakes, Makes, Enters, Moves, Diverge, DoNotCompete}
use Rattle.sf_core.specs.Machine.Reach.{Reach}
use Rattle.sf_core.specs.Machine.Step.{Event, Step}
use Rattle.sf_core.specs.Program.Formed.{IsFormed}
use Rattle.sf_core.specs.Program.Init.{sets_up}
use Rattle.sf_core.specs.Program.Syntax.{Command, assign, look_up, mutate, new, dispose, if, while, call, fork, with, Procedure, Program}
use Rattle.sf_core.proofs.Machine.Commute.{diverge-sym}
use Rattle.sf_core.proofs.Machine.Decided.{changes-or_not}
use Rattle.sf_core.proofs.Machine.Frames.{goes-not_at_no_cell, next-finds}
use Rattle.sf_core.proofs.Machine.InOrder.Kept.{step-keeps}
use Rattle.sf_core.proofs.Machine.RaceFree.{race_free-commute}
use Rattle.sf_core.proofs.Machine.Runs.{adds-fresh, reach-join}
use Rattle.sf_core.proofs.Machine.Steps.{next-footprint}
use Rattle.sf_core.proofs.Machine.Tasks.{task_at-other}
use Rattle.sf_trace.specs.Trace.{Act, Depends, IsRegion, Touches}
use Rattle.sf_journal.specs.Reorders.{CommandIsNew, IsNew}
use Rattle.sf_journal.specs.Checked.Laws.{IsNeverBad}
use Rattle.sf_journal.proofs.Apart.{neighbours-diverge}
use Rattle.sf_journal.proofs.Children.{ChildrenArePlain, children-at, next-not_settling, step-children}

-- What a step makes
command-makes_cell : (p : Program) (ev : Event) (c : Command) (l : ℕ) → CommandMakes p ev c (cell l)
    → CommandIsNew c × (l ≡ ev.at)
command-makes_cell p ev (assign place x e) l m = absurd m
command-makes_cell p ev (look_up place x e g) l m = absurd m
command-makes_cell p ev (mutate place e g v) l m = absurd m
command-makes_cell p ev (new place x) l m = (tt, cc)
command-makes_cell p ev (dispose place e) l m = absurd m
command-makes_cell p ev (if place test this that) l m = absurd m
command-makes_cell p ev (while place test kept body) l m = absurd m
command-makes_cell p ev (call place c) l m = absurd m.2
command-makes_cell p ev (fork place c d) l m = elim m.4 [ inl h ↦ absurd h | inr h ↦ absurd h ]
command-makes_cell p ev (with place r test body) l m = absurd m

-- only a `new` makes a cell, at its event's location
makes-cell : (p : Program) (ev : Event) (n : Next) (l : ℕ) → Makes p ev n (cell l) → IsNew n × (l ≡ ev.at)
makes-cell p ev (does f below c rest) l m = command-makes_cell p ev c l m
makes-cell p ev (leaves f below r rest) l m = absurd m
makes-cell p ev (returns f below) l m = absurd m
makes-cell p ev (joins frames one two) l m = absurd m
makes-cell p ev nothing l m = absurd m

-- What changes hands
-- it is the return of the procedure that sets the resources up
record Settles (p : Program) (what : Next) : Type 0 where
  frame : Fixed
  below : List Frame
  is : what ≡ returns frame below
  sets : sets_up p frame.procedure ≡ true

command-moves : (c : Command) (r : ResId) → Enters c r → IsRegion c r
command-moves (with place q test body) r e = sym e
command-moves (assign place x e) r m = absurd m
command-moves (look_up place x e g) r m = absurd m
command-moves (mutate place e g v) r m = absurd m
command-moves (new place x) r m = absurd m
command-moves (dispose place e) r m = absurd m
command-moves (if place test this that) r m = absurd m
command-moves (while place test kept body) r m = absurd m
command-moves (call place c) r m = absurd m
command-moves (fork place c d) r m = absurd m

-- a resource changes hands where a region of it is entered or left, or all are set up
moves-touches : (p : Program) (n : Next) (r : ResId) → Moves p n r → Touches n r ⊎ Settles p n
moves-touches p (does f below c rest) r m = inl (command-moves c r m)
moves-touches p (leaves f below q rest) r m = inl (sym m)
moves-touches p (returns f below) r m = inr (record { frame = f; below = below; is = refl; sets = m })
moves-touches p (joins frames one two) r m = absurd m
moves-touches p nothing r m = absurd m

-- paths that diverge have a turn
diverge-turn : (path other : Path) → Diverge path other → path ≡ [] → ⊥
diverge-turn [] other h e = h
diverge-turn (turn ∷ path) other h e = absurd (cc)

-- What is reached
-- a configuration that is reached by events whose cells stand at their numbers: each of its cells was there at the
-- start, or stands at a number that is used
pub record IsReached (p : Program) (entry : Procedure) (start c : Config) : Type 0 where
  pub events : List Event
  pub run : Reach p start events c
  pub order : IsInOrder p entry c
  pub children : ChildrenArePlain p c.tasks
  pub cells : (l : ℕ) (k : Cell) → c.common.heap l ≡ Some k
      → (start.common.heap l ≡ None → ⊥) ⊎ (c.used l ≡ true)

-- an event whose number is no location of the start's heap, and which makes a cell there alone
pub record Fits (start : Config) (a : Act) : Type 0 where
  pub unlocated : start.common.heap a.event.number ≡ None
  pub at_number : IsNew a.what → a.event.at ≡ a.event.number

-- the event's step, from what is reached
pub record ActStep (p : Program) (entry : Procedure) (start c : Config) (a : Act) (d : Config) : Type 0 where
  pub reached : IsReached p entry start c
  pub fits : Fits start a
  pub step : Step p a.event c d
  pub is : next step.from ≡ a.what

module _ (p : Program) (entry : Procedure) (start : Config) (formed : IsFormed p) where
  -- what it leads to is reached
  pub step-reached : (c d : Config) (a : Act) → ActStep p entry start c a d → IsReached p entry start d
  step-reached c d a h = record {
    events = (h.reached).events ++ a.event ∷ [];
    run = reach-join p (h.reached).events (a.event ∷ []) start c d (h.reached).run (d, h.step, refl);
    order = step-keeps p entry a.event c d formed (h.reached).order h.step;
    children = step-children p entry a.event c d (h.reached).order h.step (h.reached).children;
    cells = cells;
  }
    where
      older : (l : ℕ) → (start.common.heap l ≡ None → ⊥) ⊎ (c.used l ≡ true)
          → (start.common.heap l ≡ None → ⊥) ⊎ (d.used l ≡ true)
      older l (inl n) = inl n
      older l (inr u) = inr (ap (λ f. f l) (h.step).used ∙ or_right (l == a.event.number) (c.used l) u)

      cells : (l : ℕ) (k : Cell) → d.common.heap l ≡ Some k → (start.common.heap l ≡ None → ⊥) ⊎ (d.used l ≡ true)
      cells l k e = elim (changes-or_not p a.event c.common.store (next (h.step).from) (cell l)) [
        | inl x ↦ elim x [
          | inl w ↦
              let f = next-finds c.common (next (h.step).from) l
              (goes-not_at_no_cell p a.event c.common d.common (next (h.step).from) (h.step).to (h.step).steps)
              (inr w) in
              older l ((h.reached).cells l f.0 f.1)
          | inr m ↦
              let n = makes-cell p a.event (next (h.step).from) l m in
              let at : l ≡ a.event.number = n.1 ∙ (h.fits).at_number (subst IsNew h.is n.0) in
              inr (ap (λ f. f l) (h.step).used
              ∙ or_left (l == a.event.number) (c.used l) (ap (λ z. l == z) (sym at) ∙ at-self l))
        ]
        | inr n ↦ older l ((h.reached).cells l k (sym ((next-footprint p a.event c.common d.common
            (next (h.step).from) (h.step).to (h.step).steps).cells l
            (record { unwritten = λ w. n (inl w); not_made = λ m. n (inr m) })) ∙ e))
      ]

  module _ (never : IsNeverBad p start) (c d e : Config) (a b : Act) (free : Depends a b → ⊥)
      (h : ActStep p entry start c a d) (k : ActStep p entry start d b e) where
    abbrev s : Step p a.event c d
    s = h.step

    abbrev r : Step p b.event d e
    r = k.step

    -- they are of tasks that diverge
    paths-apart : Diverge a.event.task b.event.task
    paths-apart = neighbours-diverge p a.event b.event c d e s r
        (subst (λ z. Depends (record { event = a.event; what = z }) (record { event = b.event; what = next r.from })
        → ⊥) (sym h.is) (subst (λ z. Depends a (record { event = b.event; what = z }) → ⊥) (sym k.is) free))

    -- the second one's task stands there as before
    second-there : task_at b.event.task c.tasks ≡ Some r.from
    second-there = sym (ap (task_at b.event.task) s.tasks ∙ task_at-other b.event.task a.event.task s.to c.tasks
        (diverge-sym a.event.task b.event.task paths-apart)) ∙ r.there

    second-new : (b.event.number ≢ a.event.number) × (c.used b.event.number ≡ false)
    second-new = adds-fresh b.event.number a.event.number c.used (ap (λ f. f b.event.number) (sym s.used) ∙ r.fresh)

    -- where a cell is that one of them makes
    first-at : (l : ℕ) → Makes p a.event (next s.from) (cell l) → l ≡ a.event.number
    first-at l m =
        let n = makes-cell p a.event (next s.from) l m in n.1 ∙ (h.fits).at_number (subst IsNew h.is n.0)

    second-at : (l : ℕ) → Makes p b.event (next r.from) (cell l) → l ≡ b.event.number
    second-at l m =
        let n = makes-cell p b.event (next r.from) l m in n.1 ∙ (k.fits).at_number (subst IsNew k.is n.0)

    -- neither settles the resources: that is the entry's task alone
    first-settles : Settles p (next s.from) → ⊥
    first-settles w = true≢false (sym w.sets ∙ next-not_settling p w.frame w.below s.from
        (children-at p a.event.task c.tasks s.from (diverge-turn a.event.task b.event.task paths-apart) s.there
        (h.reached).children) w.is)

    second-settles : Settles p (next r.from) → ⊥
    second-settles w = true≢false (sym w.sets ∙ next-not_settling p w.frame w.below r.from
        (children-at p b.event.task c.tasks r.from (diverge-turn b.event.task a.event.task
        (diverge-sym a.event.task b.event.task paths-apart)) second-there (h.reached).children) w.is)

    no-hands : (q : ResId) → Moves p (next s.from) q → Moves p (next r.from) q → ⊥
    no-hands q m n = elim (moves-touches p (next s.from) q m) [
      | inr w ↦ first-settles w
      | inl x ↦ elim (moves-touches p (next r.from) q n) [
        | inr w ↦ second-settles w
        | inl y ↦ free (inr (inl (q, subst (λ z. Touches z q) h.is x, subst (λ z. Touches z q) k.is y)))
      ]
    ]

    no-cell : (l : ℕ) → Writes c.common.store (next s.from) (cell l) → Makes p b.event (next r.from) (cell l) → ⊥
    no-cell l w m =
        let f = next-finds c.common (next s.from) l
        (goes-not_at_no_cell p a.event c.common d.common (next s.from) s.to s.steps) (inr w) in
        elim ((h.reached).cells l f.0 f.1) [
          | inl n ↦ n (ap start.common.heap (second-at l m) ∙ (k.fits).unlocated)
          | inr u ↦ true≢false (sym u ∙ ap c.used (second-at l m) ∙ second-new.1)
        ]

    do-not_compete : DoNotCompete p a.event b.event c.common.store (next s.from) (next r.from)
    do-not_compete = record {
      hands = no-hands;
      made = λ l m n. second-new.0 (sym (second-at l n) ∙ first-at l m);
      written = no-cell;
    }

    -- the other order
    changed : (m : Config) × Step p b.event c m × Step p a.event m e
    changed = race_free-commute p entry a.event b.event c d e s.from r.from (h.reached).order
        (never (h.reached).events c (h.reached).run) s.there second-there paths-apart do-not_compete s r

    second-first : ActStep p entry start c b changed.0
    second-first = record {
      reached = h.reached;
      fits = k.fits;
      step = changed.1;
      is = ap next (same_Some (changed.1).from r.from (sym (changed.1).there ∙ second-there)) ∙ k.is;
    }

    first-there : task_at a.event.task (changed.0).tasks ≡ Some s.from
    first-there = ap (task_at a.event.task) (changed.1).tasks
        ∙ task_at-other a.event.task b.event.task (changed.1).to c.tasks paths-apart ∙ s.there

    first-second : ActStep p entry start changed.0 a e
    first-second = record {
      reached = step-reached c changed.0 b second-first;
      fits = h.fits;
      step = changed.2;
      is = ap next (same_Some (changed.2).from s.from (sym (changed.2).there ∙ first-there)) ∙ h.is;
    }

    -- neighbours whose order doesn't count may change places
    pub neighbours-change : (m : Config) × ActStep p entry start c b m × ActStep p entry start m a e
    neighbours-change = (changed.0, second-first, first-second)
