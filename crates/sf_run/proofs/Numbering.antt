-- That the events of a run of one task take its units in turn, and what that makes of each outcome.
-- Names: `WHAT-takes` of one event, `WHAT-numbered` of a run, `WHAT-spending` of the units that are used.
use Rattle.std.specs.Prelude.{◌≡◌, ◌⊎◌, ℕ, zero, suc, ◌+◌, List, [], ◌∷◌, Some, None, length, replicate}
use Rattle.std.specs.List.{AllByRecursion}
use Rattle.std.proofs.Common.{sym, ap, refl, subst, inl, inr, arith}
use Rattle.std.proofs.lemmas.List.{length-replicate}
use Rattle.sf_base.specs.declared.ids.ProcId.{ProcId}
use Rattle.sf_base.specs.declared.ids.ResId.{ResId}
use Rattle.sf_calls.specs.Reaches.{directly}
use Rattle.sf_core.specs.Machine.Alone.{Outcome, finished, spent, waiting, WaitsAlone, event_alone, AloneFrom}
use Rattle.sf_core.specs.Machine.Config.{Item, command, leave, Fixed, Frame, Task, runs, Config}
use Rattle.sf_core.specs.Machine.Enabled.{HasEnded}
use Rattle.sf_core.specs.Machine.Next.{frame_next, next}
use Rattle.sf_core.specs.Machine.Numbered.{NumberedFrom}
use Rattle.sf_core.specs.Machine.Reach.{Reach}
use Rattle.sf_core.specs.Machine.SpentSteps.{NeedsNoChild, SpendingFrom, SpentSteps}
use Rattle.sf_core.specs.Machine.SpentWaits.{NoneBefore, SpentWaits}
use Rattle.sf_core.specs.Machine.Step.{Event, TaskStep, procedure_at, Step}
use Rattle.sf_core.specs.Machine.Supplies.{Supply, has, units, CommandTakes, NextTakes, Takes}
use Rattle.sf_core.specs.Program.Syntax.{Command, assign, look_up, mutate, new, dispose, if, while, call, fork, with, Procedure, Program}
use Rattle.sf_run.specs.Checked.Searches.{IsFork}
use Rattle.sf_run.specs.Running.{IsNumberedEnd}
use Rattle.sf_run.specs.Checked.Lone.{inside, IsOfBody, IsLoneFrame, IsLone}
use Rattle.sf_run.specs.Sequential.{IsSequential}
use Rattle.sf_run.proofs.Bodies.{site-here}
use Rattle.sf_run.proofs.Lone.{step-lone, step-of_lone}
use Rattle.sf_run.proofs.Searching.{fork_has}

-- what a numbered run reaches, its events lead to
pub reach-numbered : (p : Program) (events : List Event) (c d : Config) (before after : Supply)
    → NumberedFrom p c before events d after → Reach p c events d
reach-numbered p [] c d before after n = n.0
reach-numbered p (event ∷ events) c d before after (between, rest, s, takes, n) =
    (between, s, reach-numbered p events between d rest after n)

-- the event of a command that is no parallel call takes the next unit
command-takes : (unit : ℕ) (us : List ℕ) (c : Command) → (IsFork c → ⊥)
    → CommandTakes (event_alone unit) c (has (unit ∷ us)) (has us)
command-takes unit us (assign place x e) n = (us, (refl, refl), refl)
command-takes unit us (look_up place x e field) n = (us, (refl, refl), refl)
command-takes unit us (mutate place e field v) n = (us, (refl, refl), refl)
command-takes unit us (new place x) n = (us, (refl, refl), refl, refl, refl)
command-takes unit us (dispose place e) n = (us, (refl, refl), refl)
command-takes unit us (if place test this that) n = (us, (refl, refl), refl)
command-takes unit us (while place test kept body) n = (us, (refl, refl), refl)
command-takes unit us (call place c) n = (us, (refl, refl), refl)
command-takes unit us (fork place c d) n = absurd (n tt)
command-takes unit us (with place r test body) n = (us, (refl, refl), refl)

-- a command of a procedure from which no parallel call can be reached is none
pub command-no_fork : (p : Program) (f : ProcId) (g : Procedure) (c : Command) (rest : List Item)
    → procedure_at p f ≡ Some g → IsSequential p f → IsOfBody g.body (command c ∷ rest) → IsFork c → ⊥
command-no_fork p f g c rest there n k h =
    n (directly (g, there, (_, k.0 _ (site-here (inside rest) c), fork_has c h)))

-- the event of what a frame of it does next
frame-takes : (p : Program) (unit : ℕ) (us : List ℕ) (f : Fixed) (below : List Frame) (g : Procedure)
    (todo : List Item) → procedure_at p f.procedure ≡ Some g → IsSequential p f.procedure
    → IsOfBody g.body todo
    → NextTakes (event_alone unit) (frame_next f below todo) (has (unit ∷ us)) (has us)
frame-takes p unit us f below g [] there n k = (us, (refl, refl), refl)
frame-takes p unit us f below g (command c ∷ rest) there n k =
    command-takes unit us c (command-no_fork p f.procedure g c rest there n k)
frame-takes p unit us f below g (leave r ∷ rest) there n k = (us, (refl, refl), refl)

frames-takes : (p : Program) (unit : ℕ) (us : List ℕ) (c d : Config) (frames : List Frame) (u : Task)
    → AllByRecursion (IsLoneFrame p) frames → TaskStep p (event_alone unit) c.common (runs frames) d.common u
    → NextTakes (event_alone unit) (next (runs frames)) (has (unit ∷ us)) (has us)
frames-takes p unit us c d [] u each step = absurd step
frames-takes p unit us c d (f ∷ below) u (mine, others) step =
    frame-takes p unit us f.fixed below mine.procedure f.todo mine.there mine.sequential mine.todo

-- so a step of a lone task takes its next unit
lone-takes : (p : Program) (unit : ℕ) (us : List ℕ) (c d : Config) → IsLone p c → Step p (event_alone unit) c d
    → Takes (event_alone unit) c (has (unit ∷ us)) (has us)
lone-takes p unit us c d k s =
    let one = step-of_lone p (event_alone unit) c d k.frames k.alone s in
    record {
      task = c.tasks;
      there = refl;
      own = has (unit ∷ us);
      kept = has us;
      is = refl;
      takes = subst (λ z. NextTakes (event_alone unit) (next z) (has (unit ∷ us)) (has us)) (sym k.alone)
          (frames-takes p unit us c d k.frames one.0 k.each one.1);
      rest = refl;
    }

-- why a lone task makes no further event, with those units left: so the outcome is that
abbrev pub HaltsWith : Config → List ℕ → Outcome → Type 0
HaltsWith c us out = (HasEnded [] c.tasks × (out ≡ finished c))
    ⊎ (((HasEnded [] c.tasks → ⊥) × (us ≡ []) × (out ≡ spent))
    ⊎ ((r : ResId) × WaitsAlone c r × (out ≡ waiting r)))

-- a numbered run of a lone task up to where it makes no further event
pub record RunsTo (p : Program) (c : Config) (us : List ℕ) (out : Outcome) : Type 0 where
  pub events : List Event
  pub last : Config
  pub left : List ℕ
  pub run : NumberedFrom p c (has us) events last (has left)
  pub lone : IsLone p last
  pub count : length events + length left ≡ length us
  pub halts : HaltsWith last left out

-- it halts at once
at-once : (p : Program) (c : Config) (us : List ℕ) (out : Outcome) → IsLone p c → HaltsWith c us out
    → RunsTo p c us out
at-once p c us out k h = record {
  events = [];
  last = c;
  left = us;
  run = (refl, refl);
  lone = k;
  count = omega arith;
  halts = h;
}

-- or after an event, which takes the next unit
after-event : (p : Program) (unit : ℕ) (us : List ℕ) (c d : Config) (out : Outcome) → IsLone p c
    → Step p (event_alone unit) c d → RunsTo p d us out → RunsTo p c (unit ∷ us) out
after-event p unit us c d out k s later = record {
  events = event_alone unit ∷ later.events;
  last = later.last;
  left = later.left;
  run = (d, has us, s, lone-takes p unit us c d k s, later.run);
  lone = later.lone;
  count = omega (arith, later.count);
  halts = later.halts;
}

-- what comes of a lone task comes by a numbered run
pub alone-numbered : (p : Program) (us : List ℕ) (c : Config) (out : Outcome) → IsLone p c → AloneFrom p c us out
    → RunsTo p c us out
alone-numbered p [] c out k (inl h) = at-once p c [] out k (inl h)
alone-numbered p [] c out k (inr (n, e)) = at-once p c [] out k (inr (inl (n, refl, e)))
alone-numbered p (unit ∷ us) c out k (inl h) = at-once p c (unit ∷ us) out k (inl h)
alone-numbered p (unit ∷ us) c out k (inr (n, inl w)) = at-once p c (unit ∷ us) out k (inr (inr w))
alone-numbered p (unit ∷ us) c out k (inr (n, inr (d, s, a))) =
    after-event p unit us c d out k s
    (alone-numbered p us d out (step-lone p (event_alone unit) c d k s) a)

-- where it ends, the list leads to that
pub end-numbered : (p : Program) (start c : Config) (base count : ℕ)
    → RunsTo p start (units base count) (finished c) → IsNumberedEnd p start base count c
end-numbered p start c base count k = elim k.halts [
  | inl (h, e) ↦ ended h e
  | inr (inl (n, none, e)) ↦ absurd (cc)
  | inr (inr (r, w, e)) ↦ absurd (cc)
]
  where
    ended : HasEnded [] (k.last).tasks → finished c ≡ finished k.last → IsNumberedEnd p start base count c
    ended h e =
        let same : k.last ≡ c = cc in
        record {
          events = k.events;
          numbered = record {
            supply = has k.left;
            run = subst (λ (z : Config). NumberedFrom p start (has (units base count)) k.events z (has k.left)) same
                k.run;
          };
          ended = subst (λ (z : Config). HasEnded [] z.tasks) same h;
        }

-- all events of a run count for the entry
pub entry-spending : (p : Program) (events : List Event) (c d : Config) (before after : Supply) (given used : ℕ)
    → NumberedFrom p c before events d after
    → SpendingFrom p [] c before (record { given = given; used = used }) events d
    (record { given = given; used = used + length events })
entry-spending p [] c d before after given used n =
    (n.0, ap (λ z. record { given = given; used = z }) (omega arith))
entry-spending p (event ∷ events) c d before after given used (between, rest, s, takes, n) =
    let count : used + 1 + length events ≡ used + suc (length events) = omega arith in (
      between,
      rest,
      s,
      takes,
      subst (λ z. SpendingFrom p [] between rest (record { given = given; used = used + 1 }) events d
          (record { given = given; used = z })) count
          (entry-spending p events between d rest after given (used + 1) n),
    )

-- as many units as there are
pub units-length : (base count : ℕ) → length (units base count) ≡ count
units-length base zero = refl
units-length base (suc count) = ap suc (units-length (suc base) count)

-- a lone task waits for no child
lone-needs_none : (p : Program) (c : Config) → IsLone p c → NeedsNoChild c.tasks
lone-needs_none p c k = subst NeedsNoChild (sym k.alone) tt

-- where it has used all its units, as many events count
pub spent-spending : (p : Program) (start : Config) (base count : ℕ) → RunsTo p start (units base count) spent
    → SpentSteps p start base count [] count
spent-spending p start base count k = elim k.halts [
  | inl (h, e) ↦ absurd (cc)
  | inr (inl (n, none, e)) ↦ used n none
  | inr (inr (r, w, e)) ↦ absurd (cc)
]
  where
    used : (HasEnded [] (k.last).tasks → ⊥) → k.left ≡ [] → SpentSteps p start base count [] count
    used n none =
        let all : 0 + length k.events ≡ count = omega (arith, k.count, ap length none, units-length base count) in
        record {
          events = k.events;
          config = k.last;
          run = subst (λ z. SpendingFrom p [] start (has (units base count)) (record { given = count; used = 0 })
              k.events k.last (record { given = count; used = z })) all
              (entry-spending p k.events start k.last (has (units base count)) (has k.left) count 0 k.run);
          task = (k.last).tasks;
          there = refl;
          going = n;
          alone = lone-needs_none p k.last k.lone;
        }

-- tries in one place are in order
zeros-ordered : (tries : ℕ) → NoneBefore 0 (replicate tries 0)
zeros-ordered zero = tt
zeros-ordered (suc tries) = (omega arith, zeros-ordered tries)

-- what holds of a place holds of each of these
zeros-all : (P : ℕ → Type 0) (tries : ℕ) → P 0 → AllByRecursion P (replicate tries 0)
zeros-all P zero h = tt
zeros-all P (suc tries) h = (h, zeros-all P tries h)

-- where it waits for a condition, and the resource is free, it tries so often in vain as one likes
pub waiting-numbered : (p : Program) (start : Config) (base count : ℕ) (r : ResId)
    → (k : RunsTo p start (units base count) (waiting r))
    → ((q : ResId) → WaitsAlone k.last q → (k.last).common.held q ≡ None)
    → (tries : ℕ) → SpentWaits p start base count [] r tries
waiting-numbered p start base count r k open_ tries = elim k.halts [
  | inl (h, e) ↦ absurd (cc)
  | inr (inl (n, none, e)) ↦ absurd (cc)
  | inr (inr (q, w, e)) ↦ let same : q ≡ r = cc in missed (subst (WaitsAlone k.last) same w)
]
  where
    missed : WaitsAlone k.last r → SpentWaits p start base count [] r tries
    missed w = record {
      before = k.events;
      between = [];
      config = k.last;
      supply = has k.left;
      first = k.run;
      others = tt;
      places = replicate tries 0;
      ordered = zeros-ordered tries;
      many = length-replicate tries 0;
      missed = zeros-all _ tries
          (omega arith, (k.last, has k.left, (refl, refl), (w.0, inr (inr (open_ r w, w.1)))));
    }
