-- That what comes of a lone task after a numbered list of events comes of it before them.
-- Names: `WHAT-took` of one event, `WHAT-prefix` of a list.
use Rattle.std.specs.Prelude.{◌≡◌, ℕ, ◌+◌, List, [], ◌∷◌, Some, length}
use Rattle.std.specs.List.{AllByRecursion}
use Rattle.std.proofs.Common.{sym, ap, ◌∙◌, refl, subst, inl, inr, arith}
use Rattle.sf_base.specs.declared.ids.ResId.{ResId}
use Rattle.sf_core.proofs.Machine.Tasks.{ended-no_event}
use Rattle.sf_core.specs.Machine.Alone.{Outcome, finished, spent, waiting, WaitsAlone, event_alone, AloneFrom, Alone}
use Rattle.sf_core.specs.Machine.Config.{Item, command, leave, Fixed, Frame, Path, Task, runs, Common, Config, put_task, task_at}
use Rattle.sf_core.specs.Machine.Enabled.{HasEnded}
use Rattle.sf_core.specs.Machine.Next.{Next, frame_next, next}
use Rattle.sf_core.specs.Machine.Numbered.{NumberedFrom}
use Rattle.sf_core.specs.Machine.SpentSteps.{Spending, SpendingFrom, SpentSteps}
use Rattle.sf_core.specs.Machine.Step.{Event, Does, Goes, TaskStep, procedure_at, Step}
use Rattle.sf_core.specs.Machine.Supplies.{Supply, has, units, TakesNext, CommandTakes, NextTakes, Takes, put_supply}
use Rattle.sf_core.specs.Program.Syntax.{Command, assign, look_up, mutate, new, dispose, if, while, call, fork, with, Procedure, Program}
use Rattle.sf_run.specs.Running.{IsNumberedEnd}
use Rattle.sf_run.specs.Checked.Lone.{IsOfBody, IsLoneFrame, IsLone}
use Rattle.sf_run.specs.Checked.Searches.{IsFork}
use Rattle.sf_run.specs.Sequential.{IsSequential}
use Rattle.sf_run.proofs.Lone.{path-lone, step-lone}
use Rattle.sf_run.proofs.Numbering.{command-no_fork, units-length}

-- the number is the next unit
next-took : (number : ℕ) (us rest : List ℕ) → TakesNext number us rest → us ≡ number ∷ rest
next-took number [] rest k = absurd k
next-took number (u ∷ us) rest (e, f) = cc

-- the event takes the next unit, and it is that which the task alone would make with it
abbrev pub Took : Program → Event → Common → Next → Common → Task → List ℕ → Supply → Type 0
Took p ev s what t u us kept = (left : List ℕ) × (us ≡ ev.number ∷ left) × (kept ≡ has left)
    × Goes p (event_alone ev.number) s what t u

-- an event of the entry's task that makes its cell at its number, with nil in all fields
new-is : (ev : Event) → ev.task ≡ [] → ev.at ≡ ev.number → ev.fields ≡ (event_alone ev.number).fields
    → ev ≡ event_alone ev.number
new-is ev a b c = λ i. record { task = a i; number = ev.number; at = b i; fields = c i }

module _ (p : Program) (ev : Event) (s t : Common) (f : Fixed) (below : List Frame) (u : Task)
    (us : List ℕ) (kept : Supply) (task : ev.task ≡ []) where
  -- the event that a task at that path makes alone with that number
  abbrev numbered_at : Path → Event
  numbered_at path = record (event_alone ev.number) { task = path }

  command-took : (c : Command) (rest : List Item) → (IsFork c → ⊥) → CommandTakes ev c (has us) kept
      → Does p ev s f below c rest t u
      → (left : List ℕ) × (us ≡ ev.number ∷ left) × (kept ≡ has left)
      × Does p (event_alone ev.number) s f below c rest t u
  command-took (assign place x e) rest n (left, k, is) d = (left, next-took ev.number us left k, is, d)
  command-took (look_up place x e field) rest n (left, k, is) d = (left, next-took ev.number us left k, is, d)
  command-took (mutate place e field v) rest n (left, k, is) d = (left, next-took ev.number us left k, is, d)
  command-took (new place x) rest n (left, k, is, at, fields) d = (
    left,
    next-took ev.number us left k,
    is,
    subst (λ z. Does p z s f below (new place x) rest t u) (new-is ev task at fields) d,
  )
  command-took (dispose place e) rest n (left, k, is) d = (left, next-took ev.number us left k, is, d)
  command-took (if place test this that) rest n (left, k, is) d = (left, next-took ev.number us left k, is, d)
  command-took (while place test inv body) rest n (left, k, is) d = (left, next-took ev.number us left k, is, d)
  command-took (call place c) rest n (left, k, is) d = (left, next-took ev.number us left k, is, d)
  command-took (fork place c d) rest n k e = absurd (n tt)
  command-took (with place r test body) rest n (left, k, is) d = (
    left,
    next-took ev.number us left k,
    is,
    subst (λ z. Does p (numbered_at z) s f below (with place r test body) rest t u) task d,
  )

  frame-took : (g : Procedure) (todo : List Item) → procedure_at p f.procedure ≡ Some g
      → IsSequential p f.procedure → IsOfBody g.body todo
      → NextTakes ev (frame_next f below todo) (has us) kept → Goes p ev s (frame_next f below todo) t u
      → Took p ev s (frame_next f below todo) t u us kept
  frame-took g [] there n k (left, takes, is) d = (
    left,
    next-took ev.number us left takes,
    is,
    subst (λ z. Goes p (numbered_at z) s (frame_next f below []) t u) task d,
  )
  frame-took g (command c ∷ rest) there n k takes d =
      command-took c rest (command-no_fork p f.procedure g c rest there n k) takes d
  frame-took g (leave r ∷ rest) there n k (left, takes, is) d = (
    left,
    next-took ev.number us left takes,
    is,
    subst (λ z. Goes p (numbered_at z) s (frame_next f below (leave r ∷ rest)) t u) task d,
  )

frames-took : (p : Program) (ev : Event) (s t : Common) (frames : List Frame) (u : Task) (us : List ℕ)
    (kept : Supply) → ev.task ≡ [] → AllByRecursion (IsLoneFrame p) frames
    → NextTakes ev (next (runs frames)) (has us) kept → Goes p ev s (next (runs frames)) t u
    → Took p ev s (next (runs frames)) t u us kept
frames-took p ev s t [] u us kept task each takes step = absurd step
frames-took p ev s t (f ∷ below) u us kept task (mine, others) takes step =
    frame-took p ev s t f.fixed below u us kept task mine.procedure f.todo mine.there mine.sequential mine.todo
    takes step

-- a numbered event of a lone task is the one that it would make alone with its next unit
pub lone-took : (p : Program) (ev : Event) (c d : Config) (us : List ℕ) (after : Supply) → IsLone p c
    → Step p ev c d → Takes ev c (has us) after
    → (left : List ℕ) × (us ≡ ev.number ∷ left) × (after ≡ has left) × Step p (event_alone ev.number) c d
lone-took p ev c d us after k s takes =
    let at = path-lone ev.task k.frames s.from (sym (ap (λ z. task_at ev.task z) k.alone) ∙ s.there) in
    let top = path-lone ev.task k.frames takes.task (sym (ap (λ z. task_at ev.task z) k.alone) ∙ takes.there) in
    let own : has us ≡ takes.own = cc in
    let what : next takes.task ≡ next (runs k.frames) = ap next top.1 in
    let mine = frames-took p ev c.common d.common k.frames s.to us takes.kept at.0 k.each
    (subst (λ z. NextTakes ev z (has us) takes.kept) what
    (subst (λ z. NextTakes ev (next takes.task) z takes.kept) (sym own) takes.takes))
    (subst (λ z. TaskStep p ev c.common z d.common s.to) at.1 s.steps) in (
      mine.0,
      mine.1,
      takes.rest ∙ ap (λ z. put_supply z takes.kept (has us)) at.0 ∙ mine.2,
      record {
        fresh = s.fresh;
        used = s.used;
        from = runs k.frames;
        to = s.to;
        there = ap Some k.alone;
        steps = mine.3;
        tasks = s.tasks ∙ ap (λ z. put_task z s.to c.tasks) at.0;
      },
    )

-- what is left after a numbered list, and that what comes then comes before it
pub record Follows (p : Program) (c : Config) (us : List ℕ) (events : List Event) (d : Config)
    (rest : Supply) : Type 0 where
  pub left : List ℕ
  pub is : rest ≡ has left
  pub count : length events + length left ≡ length us
  pub lone : IsLone p d
  pub comes : (out : Outcome) → AloneFrom p d left out → AloneFrom p c us out

pub numbered-prefix : (p : Program) (us : List ℕ) (events : List Event) (c d : Config) (rest : Supply)
    → IsLone p c → NumberedFrom p c (has us) events d rest → Follows p c us events d rest
numbered-prefix p us [] c d rest k (same, is) = record {
  left = us;
  is = is;
  count = omega arith;
  lone = subst (IsLone p) (sym same) k;
  comes = λ out a. subst (λ z. AloneFrom p z us out) same a;
}
numbered-prefix p us (event ∷ events) c d rest k (between, mid, s, takes, n) =
    let one = lone-took p event c between us mid k s takes in
    let later = numbered-prefix p one.0 events between d rest (step-lone p event c between k s)
    (subst (λ z. NumberedFrom p between z events d rest) one.2 n) in
    record {
      left = later.left;
      is = later.is;
      count = omega (arith, later.count, ap length one.1);
      lone = later.lone;
      comes = λ out a. subst (λ z. AloneFrom p c z out) (sym one.1)
          (inr ((λ h. ended-no_event p event c between h s), inr (between, one.3, later.comes out a)));
    }

-- a task that has ended has come to its end, whatever units are left
pub ended-comes : (p : Program) (c : Config) (us : List ℕ) → HasEnded [] c.tasks → AloneFrom p c us (finished c)
ended-comes p c [] h = inl (h, refl)
ended-comes p c (u ∷ us) h = inl (h, refl)

-- what a numbered list leads to where the entry has ended comes of it
pub end-prefix : (p : Program) (start c : Config) (base count : ℕ) → IsLone p start
    → IsNumberedEnd p start base count c → Alone p start base count (finished c)
end-prefix p start c base count k n =
    let f = numbered-prefix p (units base count) n.events start c (n.numbered).supply k (n.numbered).run in
    f.comes (finished c) (ended-comes p c f.left n.ended)

-- a list that spends is numbered, and all its events count for the entry
pub spending-numbered : (p : Program) (events : List Event) (c d : Config) (before : Supply) (given used : ℕ)
    (last : Spending) → SpendingFrom p [] c before (record { given = given; used = used }) events d last
    → (rest : Supply) × NumberedFrom p c before events d rest × (last.given ≡ given)
    × (last.used ≡ used + length events)
spending-numbered p [] c d before given used last (same, is) = (
  before,
  (same, refl),
  ap (λ (z : Spending). z.given) is,
  ap (λ (z : Spending). z.used) is ∙ omega arith,
)
spending-numbered p (event ∷ events) c d before given used last (between, rest, s, takes, n) =
    let later = spending-numbered p events between d rest given (used + 1) last n in
    (later.0, (between, rest, s, takes, later.1), later.2, later.3 ∙ omega arith)

-- nothing is left of as many
none-left : (us : List ℕ) (count : ℕ) → count + length us ≡ count → us ≡ []
none-left [] count e = refl
none-left (u ∷ us) count e = absurd (omega (arith, e))

-- where the entry's task has used all its units, and would go on, that comes of it
pub spent-prefix : (p : Program) (start : Config) (base count used : ℕ) → IsLone p start
    → SpentSteps p start base count [] used → (used ≡ count) × Alone p start base count spent
spent-prefix p start base count used k s =
    let n = spending-numbered p s.events start s.config (has (units base count)) count 0
    (record { given = used; used = used }) s.run in
    let f = numbered-prefix p (units base count) s.events start s.config n.0 k n.1 in
    let none = none-left f.left count
    (omega (arith, f.count, n.2, n.3, units-length base count)) in
    let top : s.task ≡ (s.config).tasks = cc in (
      n.2,
      f.comes spent (subst (λ z. AloneFrom p s.config z spent) (sym none)
          (inr ((λ h. s.going (subst (HasEnded []) (sym top) h)), refl))),
    )

-- where it waits for a condition, and a unit is left, that comes of it
pub waiting-prefix : (p : Program) (start c : Config) (base count : ℕ) (events : List Event) (u : ℕ)
    (us : List ℕ) (r : ResId) → IsLone p start
    → NumberedFrom p start (has (units base count)) events c (has (u ∷ us)) → (HasEnded [] c.tasks → ⊥)
    → WaitsAlone c r → Alone p start base count (waiting r)
waiting-prefix p start c base count events u us r k n going w =
    let f = numbered-prefix p (units base count) events start c (has (u ∷ us)) k n in
    let same : f.left ≡ u ∷ us = cc in
    f.comes (waiting r) (subst (λ z. AloneFrom p c z (waiting r)) (sym same) (inr (going, inl (r, w, refl))))
