-- That something comes of each list of events, and that it is nothing bad where the program is sound.
-- Names: `refuses-WHAT` why a step is none, `answer-WHAT` what an event answers, `comes-WHAT` what comes of events.
use Rattle.std.specs.Prelude.{◌≡◌, ◌≢◌, ◌⊎◌, ℕ, suc, Bool, true, false, List, [], ◌∷◌, Option, Some, None, MatchOption, length, take}
use Rattle.std.proofs.Common.{sym, ap, ◌∙◌, refl, subst, inl, inr, arith}
use Rattle.std.proofs.lemmas.Bool.{cases_eq}
use Rattle.sf_base.proofs.Options.{some-none, some-once}
use Rattle.sf_base.specs.HeapStore.{Cell}
use Rattle.sf_core.specs.Checked.Machine.Laws.{CommandMakes, CommandMayStop, Makes, MayStop, ReachedConfigsAreInOrder}
use Rattle.sf_core.specs.Checked.Machine.InOrder.{IsInOrder}
use Rattle.sf_core.specs.Machine.Bad.{Bad}
use Rattle.sf_core.specs.Machine.Config.{Item, command, leave, Fixed, Task, runs, waits, Config, evaluate, task_at}
use Rattle.sf_core.specs.Machine.Enabled.{cell, HasEnded, IsBlocked, IsEnabled, IsShut}
use Rattle.sf_core.specs.Machine.Next.{Next, does, leaves, returns, joins, nothing, frame_next, next}
use Rattle.sf_core.specs.Machine.SpentSteps.{NeedsNoChild}
use Rattle.sf_core.specs.Machine.Start.{initial_config}
use Rattle.sf_core.specs.Machine.Step.{Event, Step}
use Rattle.sf_core.specs.Program.Formed.{IsFormed}
use Rattle.sf_core.specs.Program.Syntax.{Command, assign, look_up, mutate, new, dispose, if, while, call, fork, with, Program}
use Rattle.sf_core.proofs.Machine.InOrder.Met.{task-may_stop}
use Rattle.sf_core.proofs.Machine.Laws.{reached_configs_are_in_order}
use Rattle.sf_core.proofs.Machine.Progress.{enabled-or_stop}
use Rattle.sf_foot.specs.Starting.{store_of}
use Rattle.sf_heap.specs.Cells.{heap_of}
use Rattle.sf_machine.specs.Accessing.{thing_of}
use Rattle.sf_machine.specs.Answers.{Answers, IsGoing, IsRefused, Refuses}
use Rattle.sf_machine.specs.Reached.{IsReached, StartsAreReached, StepsAreReached}
use Rattle.sf_machine.specs.declared.event.Stepped.{Stepped}
use Rattle.sf_machine.specs.declared.event.Stepped.TheVariants as s
use Rattle.sf_machine.specs.Beginning.{Begins}
use Rattle.sf_replay.specs.Checked.Going.{IsBadAt}
use Rattle.sf_replay.specs.Checked.Laws.{EventsAreReplayed, IsReplayed, SoundRunsAreClean, StartsAreReplayed}
use Rattle.sf_replay.specs.declared.found.Found.{Found}
use Rattle.sf_replay.specs.declared.found.Found.TheVariants.{Clean, Absent, Race}
use Rattle.sf_replay.specs.declared.found.ReplayFault.{ReplayFault}
use Rattle.sf_replay.specs.declared.found.ReplayFault.TheVariants.{NotAnEvent, OutOfMemory}
use Rattle.sf_replay.specs.FirstBad.{IsFirstAbsent, IsFirstRace}
use Rattle.sf_replay.specs.Replays.{Finds, IsStuckAt, LeadsTo, Stops}
use Rattle.sf_replay.proofs.Going.{stuck-cause}
use Rattle.sf_replay.proofs.Listings.{bad-or_not}
use Rattle.sf_replay.proofs.Meetings.{Decided, blocked-or_not, both-or_not, ended-or_not, over-or_not}
use Rattle.sf_replay.proofs.Once.{absent-bad, leads-reach, race-bad}

-- ---- what an event answers

alone-or_not : (t : Task) → Decided (NeedsNoChild t)
alone-or_not (runs frames) = inl tt
alone-or_not (waits frames one two) = both-or_not (over-or_not one) (over-or_not two)

-- a configuration that is reached is in order
in-order : (p : Program) (c : Config) → IsFormed p → (r : IsReached p c) → IsInOrder p r.starts.procedure c
unfolding ReachedConfigsAreInOrder
in-order p c formed r =
    reached_configs_are_in_order p r.procedure r.store r.heap r.start c r.events formed r.starts r.reached

module _ (p : Program) (ev : Event) (c : Config) where
  -- some answer
  abbrev SomeAnswer : Type 0
  SomeAnswer = (why : Stepped) × Answers p ev c why

  -- the reason is one for which there is no such step
  abbrev Refusing : Next → Type 0
  Refusing n = (why : Stepped) → Refuses ev c.common n why → IsRefused ev c why

  -- a command that stops refuses
  refuses-command : (f : Fixed) (one : Command)
      → ((why : Stepped) → Refuses ev c.common (does f [] one []) why → IsRefused ev c why)
      → CommandMayStop ev.task c.common f one → SomeAnswer
  refuses-command f (assign place x e) k h = absurd h
  refuses-command f (look_up place x e g) k h =
      let v = evaluate f.slots c.common.store e in (s.Absent v, k (s.Absent v) (refl, h))
  refuses-command f (mutate place e g w) k h =
      let v = evaluate f.slots c.common.store e in (s.Absent v, k (s.Absent v) (refl, h))
  refuses-command f (new place x) k h = absurd h
  refuses-command f (dispose place e) k h =
      let v = evaluate f.slots c.common.store e in (s.Absent v, k (s.Absent v) (refl, h))
  refuses-command f (if place test this that) k h = absurd h
  refuses-command f (while place test kept body) k h = absurd h
  refuses-command f (call place one) k h = absurd h
  refuses-command f (fork place one two) k h = (s.TooDeep, k s.TooDeep (refl, h))
  refuses-command f (with place r test body) k h = (s.Waiting r, k (s.Waiting r) (refl, inr h))

  refuses-stop : (n : Next) → Refusing n → MayStop ev.task c.common n → SomeAnswer
  refuses-stop (does f below one rest) k h = refuses-command f one k h
  refuses-stop (leaves f below r rest) k h = absurd h
  refuses-stop (returns f below) k h = absurd h
  refuses-stop (joins frames one two) k h = absurd h
  refuses-stop nothing k h = absurd h

  -- a command that is shut waits
  refuses-shut : (f : Fixed) (one : Command)
      → ((why : Stepped) → Refuses ev c.common (does f [] one []) why → IsRefused ev c why)
      → IsShut c.common.held one → SomeAnswer
  refuses-shut f (assign place x e) k h = absurd h
  refuses-shut f (look_up place x e g) k h = absurd h
  refuses-shut f (mutate place e g w) k h = absurd h
  refuses-shut f (new place x) k h = absurd h
  refuses-shut f (dispose place e) k h = absurd h
  refuses-shut f (if place test this that) k h = absurd h
  refuses-shut f (while place test kept body) k h = absurd h
  refuses-shut f (call place one) k h = absurd h
  refuses-shut f (fork place one two) k h = absurd h
  refuses-shut f (with place r test body) k h = (s.Waiting r, k (s.Waiting r) (refl, inl h))

  refuses-blocked : (t : Task) → NeedsNoChild t → Refusing (next t) → IsBlocked c.common.held (next t) → SomeAnswer
  refuses-blocked (runs []) a k h = absurd h
  refuses-blocked (runs (f ∷ below)) a k h = go f.todo k h
    where
      go : (todo : List Item) → Refusing (frame_next f.fixed below todo)
          → IsBlocked c.common.held (frame_next f.fixed below todo) → SomeAnswer
      go [] m b = absurd b
      go (command one ∷ rest) m b = refuses-shut f.fixed one m b
      go (leave r ∷ rest) m b = absurd b
  refuses-blocked (waits frames one two) a k h = absurd (h a)

  -- the location of a cell that is made is absent, and not 0
  abbrev MayMake : Next → Type 0
  MayMake n = (location : ℕ) → Makes p ev n (cell location) → (location ≢ 0) × (c.common.heap location ≡ None)

  makes-new : Decided (ev.at ≡ 0) → (o : Option Cell) → c.common.heap ev.at ≡ o
      → ((location : ℕ) → cell location ≡ cell ev.at → (location ≢ 0) × (c.common.heap location ≡ None))
      ⊎ ((ev.at ≡ 0) ⊎ (c.common.heap ev.at ≢ None))
  makes-new (inl z) o e = inr (inl z)
  makes-new (inr n) (Some k) e = inr (inr (λ none. some-none k (sym e ∙ none)))
  makes-new (inr n) None e = inl (λ location m. let same : location ≡ ev.at = cc in
      (λ z. n (sym same ∙ z), ap c.common.heap same ∙ e))

  at-zero : Decided (ev.at ≡ 0)
  at-zero = cases_eq ev.at 0

  makes-command : (f : Fixed) (one : Command)
      → ((location : ℕ) → CommandMakes p ev one (cell location) → (location ≢ 0) × (c.common.heap location ≡ None))
      ⊎ Refuses ev c.common (does f [] one []) s.Stale
  makes-command f (assign place x e) = inl (λ location m. absurd m)
  makes-command f (look_up place x e g) = inl (λ location m. absurd m)
  makes-command f (mutate place e g w) = inl (λ location m. absurd m)
  makes-command f (new place x) = elim (makes-new at-zero (c.common.heap ev.at) refl)
      [ inl k ↦ inl k | inr h ↦ inr (refl, h) ]
  makes-command f (dispose place e) = inl (λ location m. absurd m)
  makes-command f (if place test this that) = inl (λ location m. absurd m)
  makes-command f (while place test kept body) = inl (λ location m. absurd m)
  makes-command f (call place one) = inl (λ location m. absurd m.2)
  makes-command f (fork place one two) = inl (λ location m. absurd (elim m.4 [ inl h ↦ h | inr h ↦ h ]))
  makes-command f (with place r test body) = inl (λ location m. absurd m)

  makes-next : (n : Next) → MayMake n ⊎ Refuses ev c.common n s.Stale
  makes-next (does f below one rest) = makes-command f one
  makes-next (leaves f below r rest) = inl (λ location m. absurd m)
  makes-next (returns f below) = inl (λ location m. absurd m)
  makes-next (joins frames one two) = inl (λ location m. absurd m)
  makes-next nothing = inl (λ location m. absurd m)

  module _ (formed : IsFormed p) (reached : IsReached p c) (t : Task) (g : IsGoing c ev.task t) where
    refused : (fresh : c.used ev.number ≡ false) (why : Stepped) → Refuses ev c.common (next t) why
        → IsRefused ev c why
    refused fresh why h = record { task = t; going = g; cause = inr (fresh, h) }

    answer-enabled : c.used ev.number ≡ false → IsEnabled c ev.task t → SomeAnswer
    answer-enabled fresh e = elim (makes-next (next t)) [
      | inr h ↦ (s.Stale, refused fresh s.Stale h)
      | inl z ↦ elim (enabled-or_stop p ev c t e fresh z) [
        | inl step ↦ (s.Moved, step)
        | inr h ↦ refuses-stop (next t) (refused fresh)
            (task-may_stop p reached.starts.procedure c ev.task (in-order p c formed reached) t g.there h)
      ]
    ]

    answer-going : (b : Bool) → c.used ev.number ≡ b → Decided (IsBlocked c.common.held (next t)) → SomeAnswer
    answer-going true u d = (s.Stale, record { task = t; going = g; cause = inl (u, refl) })
    answer-going false u (inl b) = refuses-blocked t g.alone (refused u) b
    answer-going false u (inr free) =
        answer-enabled u (record { there = g.there; going = g.going; free = free })

  answer-there : IsFormed p → IsReached p c → (t : Task) → task_at ev.task c.tasks ≡ Some t
      → Decided (HasEnded ev.task t) → Decided (NeedsNoChild t) → SomeAnswer
  answer-there formed reached t e (inl h) a = (
    s.NoTask,
    λ task g. g.going (subst (HasEnded ev.task)
        (some-once (task_at ev.task c.tasks) t task e g.there) h),
  )
  answer-there formed reached t e (inr n) (inr b) = (
    s.NoTask,
    λ task g. b (subst NeedsNoChild
        (some-once (task_at ev.task c.tasks) task t g.there e) g.alone),
  )
  answer-there formed reached t e (inr n) (inl a) =
      answer-going formed reached t (record { there = e; going = n; alone = a }) (c.used ev.number) refl
      (blocked-or_not c.common.held (next t))

  answer-at : IsFormed p → IsReached p c → (o : Option Task) → task_at ev.task c.tasks ≡ o → SomeAnswer
  answer-at formed reached None e = (s.NoTask, λ task g. some-none task (sym g.there ∙ e))
  answer-at formed reached (Some t) e =
      answer-there formed reached t e (ended-or_not ev.task t) (alone-or_not t)

  -- each event has an answer where the configuration is reached
  answer-some : IsFormed p → IsReached p c → SomeAnswer
  answer-some formed reached = answer-at formed reached (task_at ev.task c.tasks) refl

-- ---- what comes of events

-- what is bad at once
comes-bad : (p : Program) (c : Config) (es : List Event) (found : Found) → IsBadAt 0 c found → IsReplayed p c es
comes-bad p c es Clean b = absurd b
comes-bad p c es (Absent count path value) b = inl (
  Absent 0 path value,
  record {
    config = c;
    within = omega arith;
    leads = refl;
    what = b.1;
  },
)
comes-bad p c es (Race count path other thing) b = inl (
  Race 0 path other thing,
  record {
    config = c;
    within = omega arith;
    leads = refl;
    what = b.1;
  },
)

-- the same of a run that has one event more at its beginning
comes-later : (p : Program) (c d : Config) (e : Event) (es : List Event) (count : ℕ) (What : Config → Type 0)
    → (Bad c → ⊥) → Step p e c d → LeadsTo p d es count What → LeadsTo p c (e ∷ es) (suc count) What
comes-later p c d e es count What fine step l = record {
  config = l.config;
  within = let most = l.within in omega (arith, most);
  leads = (fine, (d, step, l.leads));
  what = l.what;
}

comes-stuck : (p : Program) (c d : Config) (e : Event) (es : List Event) (number : ℕ) (why : Stepped) (x : Config)
    → IsStuckAt p es number why x → IsStuckAt p (e ∷ es) (suc number) why x
comes-stuck p c d e es number why x h = record {
  fine = h.fine;
  event = h.event;
  there = h.there;
  answers = h.answers;
  cause = h.cause;
}

comes-found : (p : Program) (c d : Config) (e : Event) (es : List Event) (found : Found) → (Bad c → ⊥)
    → Step p e c d → Finds p d es found → IsReplayed p c (e ∷ es)
comes-found p c d e es Clean fine step h =
    inl (Clean, comes-later p c d e es (length es) (λ x. Bad x → ⊥) fine step h)
comes-found p c d e es (Absent count path value) fine step h = inl (
  Absent (suc count) path value,
  comes-later p c d e es count (λ x. IsFirstAbsent x path value) fine step h,
)
comes-found p c d e es (Race count path other thing) fine step h = inl (
  Race (suc count) path other thing,
  comes-later p c d e es count (λ x. IsFirstRace x path other (thing_of thing)) fine step h,
)

comes-fault : (p : Program) (c d : Config) (e : Event) (es : List Event) (fault : ReplayFault) → (Bad c → ⊥)
    → Step p e c d → Stops p d es fault → IsReplayed p c (e ∷ es)
comes-fault p c d e es OutOfMemory fine step h = absurd h
comes-fault p c d e es (NotAnEvent number why) fine step h =
    let l = comes-later p c d e es number (IsStuckAt p es number why) fine step h in
    inr (
      NotAnEvent (suc number) why,
      record {
        config = l.config;
        within = l.within;
        leads = l.leads;
        what = comes-stuck p c d e es number why l.config l.what;
      },
    )

comes-none : (p : Program) (c : Config) (e : Event) (es : List Event) (why : Stepped) → (Bad c → ⊥)
    → (why ≡ s.Moved → ⊥) → Answers p e c why → IsReplayed p c (e ∷ es)
comes-none p c e es why fine m a = inr (
  NotAnEvent 0 why,
  record {
    config = c;
    within = omega arith;
    leads = refl;
    what = record {
      fine = fine;
      event = e;
      there = refl;
      answers = a;
      cause = stuck-cause p e c why fine m a;
    };
  },
)

comes-on : (p : Program) (c : Config) (e : Event) (es : List Event)
    → ((d : Config) → Step p e c d → IsReplayed p d es) → (Bad c → ⊥) → (why : Stepped) → Answers p e c why
    → IsReplayed p c (e ∷ es)
comes-on p c e es later fine s.Moved a = elim (later a.0 a.1) [
  | inl k ↦ comes-found p c a.0 e es k.0 fine a.1 k.1
  | inr k ↦ comes-fault p c a.0 e es k.0 fine a.1 k.1
]
comes-on p c e es later fine (s.Absent v) a = comes-none p c e es (s.Absent v) fine (λ m. absurd (cc)) a
comes-on p c e es later fine (s.Waiting r) a = comes-none p c e es (s.Waiting r) fine (λ m. absurd (cc)) a
comes-on p c e es later fine s.NoTask a = comes-none p c e es s.NoTask fine (λ m. absurd (cc)) a
comes-on p c e es later fine s.Stale a = comes-none p c e es s.Stale fine (λ m. absurd (cc)) a
comes-on p c e es later fine s.TooDeep a = comes-none p c e es s.TooDeep fine (λ m. absurd (cc)) a

comes-looked : (p : Program) (c : Config) (es : List Event) (o : Option Found)
    → MatchOption o (Bad c → ⊥) (IsBadAt 0 c) → ((Bad c → ⊥) → IsReplayed p c es) → IsReplayed p c es
comes-looked p c es None m k = k m
comes-looked p c es (Some found) m k = comes-bad p c es found m

comes-some : StepsAreReached → (p : Program) (c : Config) (es : List Event) → IsFormed p → IsReached p c
    → IsReplayed p c es
unfolding StepsAreReached
comes-some steps p c [] formed reached =
    let look = bad-or_not c 0 in
    comes-looked p c [] look.0 look.1
    (λ fine. inl (Clean, record { config = c; within = omega arith; leads = refl; what = fine }))
comes-some steps p c (e ∷ es) formed reached =
    let look = bad-or_not c 0 in
    let answer = answer-some p e c formed reached in
    comes-looked p c (e ∷ es) look.0 look.1
    (λ fine. comes-on p c e es (λ d step. comes-some steps p d es formed (steps p e c d reached step)) fine answer.0
    answer.1)

pub events_are_replayed : StepsAreReached → EventsAreReplayed
unfolding EventsAreReplayed
events_are_replayed steps p start events formed reached = comes-some steps p start events formed reached

pub starts_are_replayed : StartsAreReached → StepsAreReached → StartsAreReplayed
unfolding StartsAreReplayed StartsAreReached
starts_are_replayed begun steps p f fresh vars heap parts events formed starts =
    let c = initial_config starts.beginning p f starts.procedure (store_of starts.beginning starts.procedure vars)
    (heap_of heap) in
    let begins : Begins p f fresh vars heap c = record {
      procedure = starts.procedure;
      there = starts.there;
      beginning = starts.beginning;
      kind = starts.kind;
      is = refl;
    } in
    record {
      start = c;
      begins = begins;
      what = comes-some steps p c events formed (begun p f fresh vars heap parts c starts begins refl);
    }

-- ---- sound programs

pub sound_runs_are_clean : SoundRunsAreClean
unfolding SoundRunsAreClean
sound_runs_are_clean p f store heap start events Clean sound starts h = refl
sound_runs_are_clean p f store heap start events (Absent count path value) sound starts h =
    let good = sound f store heap start h.config (take count events) starts
    (leads-reach p start h.config (take count events) h.leads) in
    absurd (good.never_bad (absent-bad h.config path value h.what))
sound_runs_are_clean p f store heap start events (Race count path other thing) sound starts h =
    let good = sound f store heap start h.config (take count events) starts
    (leads-reach p start h.config (take count events) h.leads) in
    absurd (good.never_bad (race-bad h.config path other (thing_of thing) h.what))
