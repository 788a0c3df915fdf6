-- Reorderings of a list of events that reaches a configuration: that each reaches it too.
use Rattle.std.specs.Prelude.{◌≡◌, List, [], ◌∷◌, Contains}
use Rattle.std.proofs.Common.{inl, refl, sym, ap, ◌∙◌, subst}
use Rattle.std.proofs.lemmas.List.Sorted.{Contains-permutation, IsPermutation-sym}
use Rattle.sf_base.proofs.Elements.{contains-rest}
use Rattle.sf_base.proofs.Members.{contains-map, contains-map_from}
use Rattle.sf_base.proofs.Options.{some-none}
use Rattle.sf_base.specs.declared.ids.ProcId.{ProcId}
use Rattle.sf_base.specs.HeapStore.{Heap, Store}
use Rattle.sf_core.specs.Machine.Config.{Config}
use Rattle.sf_core.specs.Machine.Start.{Start}
use Rattle.sf_core.specs.Machine.Next.{next}
use Rattle.sf_core.specs.Checked.Machine.Laws.{AreDistinct}
use Rattle.sf_core.specs.Machine.Reach.{Reach}
use Rattle.sf_core.specs.Machine.Step.{Event}
use Rattle.sf_core.specs.Program.Formed.{IsFormed}
use Rattle.sf_core.specs.Program.Syntax.{Procedure, Program}
use Rattle.sf_core.proofs.Machine.InOrder.Starts.{start-in_order}
use Rattle.sf_core.proofs.Machine.Runs.{reach-numbers}
use Rattle.sf_journal.specs.Before.{IsBefore}
use Rattle.sf_trace.specs.Trace.{Act, Depends, Traces, events_in}
use Rattle.sf_journal.specs.Reorders.{ReachesByNumbers, AreUnlocated, Reorders}
use Rattle.sf_journal.specs.Checked.Laws.{IsNeverBad, ReorderingsReachTheSame}
use Rattle.sf_journal.proofs.Children.{start-children}
use Rattle.sf_journal.proofs.Distinct.{distinct-acts, distinct-permuted, distinct-same}
use Rattle.sf_journal.proofs.Exchanges.{Runs, reordered-runs}
use Rattle.sf_journal.proofs.Neighbours.{IsReached, ActStep, neighbours-change, step-reached}
use Rattle.sf_journal.proofs.Orders.{before-map_from, before-there, contains-first, contains-lift}

-- the events with what their tasks do by them
pub record IsMade (p : Program) (entry : Procedure) (start c : Config) (events : List Event) (d : Config) : Type 0 where
  pub acts : List Act
  pub are : events_in acts ≡ events
  pub traces : Traces p c acts d
  pub runs : Runs (ActStep p entry start) c acts d

module _ (p : Program) (entry : Procedure) (start : Config) (formed : IsFormed p) where
  pub events-made : (events : List Event) (c d : Config) → IsReached p entry start c
      → ReachesByNumbers p c events d → AreUnlocated start events → IsMade p entry start c events d
  events-made [] c d i r free = record { acts = []; are = refl; traces = r; runs = r }
  events-made (event ∷ events) c d i (m, s, at, r) free =
      let a : Act = record { event = event; what = next s.from } in
      let first : ActStep p entry start c a m = record {
        reached = i;
        fits = record { unlocated = free event (contains-first event events); at_number = at };
        step = s;
        is = refl;
      } in
      let more = events-made events m d (step-reached p entry start formed c m a first) r
      (λ other h. free other (contains-rest event events other h)) in
      record {
        acts = a ∷ more.acts;
        are = ap (λ z. event ∷ z) more.are;
        traces = (m, s, refl, more.traces);
        runs = (m, first, more.runs);
      }

  -- the acts are a run of events
  pub acts-reach : (acts : List Act) (c d : Config) → Runs (ActStep p entry start) c acts d
      → Reach p c (events_in acts) d
  acts-reach [] c d r = r
  acts-reach (a ∷ acts) c d (m, h, r) = (m, h.step, acts-reach acts m d r)

  -- acts with the same events, in which tied ones keep their order, lead to the same
  pub acts-reordered : IsNeverBad p start → (acts others : List Act) (d : Config)
      → Runs (ActStep p entry start) start acts d → AreDistinct (events_in others)
      → ((a : Act) → Contains acts a → Contains others a) → ((a : Act) → Contains others a → Contains acts a)
      → ((a b : Act) → IsBefore acts a b → Depends a b → IsBefore others a b)
      → Reach p start (events_in others) d
  acts-reordered never acts others d r distinct there back agrees =
      acts-reach others start d (reordered-runs (ActStep p entry start) Depends
      (neighbours-change p entry start formed never) others acts start d (record {
        once = distinct-acts acts (reach-numbers p (events_in acts) start d (acts-reach acts start d r)).distinct;
        other_once = distinct-acts others distinct;
        there = there;
        back = back;
        agrees = agrees;
      }) r)

  module _ (never : IsNeverBad p start) (events others : List Event) (d : Config)
      (made : IsMade p entry start start events d) (h : Reorders p start events others) where
    abbrev acts : List Act
    acts = made.acts

    distinct : AreDistinct (events_in acts)
    distinct = (reach-numbers p (events_in acts) start d (acts-reach acts start d made.runs)).distinct

    lifted : (zs : List Act) × (events_in zs ≡ others) × ((a : Act) → Contains zs a → Contains acts a)
    lifted = contains-lift (λ (a : Act). a.event) acts others (λ event k.
        subst (λ z. Contains z event) (sym made.are)
        (Contains-permutation others events event (IsPermutation-sym events others h.same) k))

    others-distinct : AreDistinct (events_in lifted.0)
    others-distinct = subst AreDistinct (sym lifted.1)
        (distinct-permuted events others h.same (subst AreDistinct made.are distinct))

    -- the act of the other list with an act's event is that act
    is-lifted : (a b : Act) → Contains acts a → Contains lifted.0 b → b.event ≡ a.event → b ≡ a
    is-lifted a b k l e = distinct-same acts b a distinct (lifted.2 b l) k (ap (λ (z : Event). z.number) e)

    act-there : (a : Act) → Contains acts a → Contains lifted.0 a
    act-there a k =
        let there : Contains others a.event = Contains-permutation events others a.event h.same
        (subst (λ z. Contains z a.event) made.are (contains-map (λ (z : Act). z.event) acts a k)) in
        let w = contains-map_from (λ (z : Act). z.event) lifted.0 a.event
        (subst (λ z. Contains z a.event) (sym lifted.1) there) in
        subst (Contains lifted.0) (is-lifted a w.0 k w.1 w.2) w.1

    act-before : (a b : Act) → IsBefore acts a b → Depends a b → IsBefore lifted.0 a b
    act-before a b before tied =
        let order : IsBefore others a.event b.event = h.agrees a.event b.event (record {
          acts = acts;
          reached = d;
          traces = made.traces;
          are = made.are;
          one = a;
          two = b;
          before = before;
          depends = tied;
          first = refl;
          second = refl;
        }) in
        let w = before-map_from (λ (z : Act). z.event) lifted.0 a.event b.event
        (subst (λ z. IsBefore z a.event b.event) (sym lifted.1) order) in
        let both = before-there acts a b before in
        let found = before-there lifted.0 w.0 w.1 w.2 in
        subst (λ z. IsBefore lifted.0 z b) (is-lifted a w.0 both.0 found.0 w.3)
        (subst (λ z. IsBefore lifted.0 w.0 z) (is-lifted b w.1 both.1 found.1 w.4) w.2)

    pub others-reach : Reach p start others d
    others-reach = subst (λ z. Reach p start z d) lifted.1 (acts-reordered never acts lifted.0 d made.runs
        others-distinct act-there lifted.2 act-before)

-- at the start each cell is there
pub start-reached : (p : Program) (f : ProcId) (store : Store) (heap : Heap) (start : Config) → IsFormed p
    → (s : Start p f store heap start) → IsReached p s.procedure start start
start-reached p f store heap start formed s = record {
  events = [];
  run = refl;
  order = start-in_order p f store heap start formed s;
  children = start-children p f store heap start s;
  cells = λ l k e. inl (λ n. some-none k (sym e ∙ n));
}

pub reorderings_reach_the_same : ReorderingsReachTheSame
unfolding ReorderingsReachTheSame
reorderings_reach_the_same p f store heap start c events others formed s never r free h =
    others-reach p s.procedure start formed never events others c
    (events-made p s.procedure start formed events start c (start-reached p f store heap start formed s) r free) h
