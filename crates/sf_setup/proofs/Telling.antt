-- What the log of a task that goes on alone tells of its events.
-- Names: `apart-LAW` of the children of one task; `told-LAW` of acts with stamps; `alone-LAW` of a task that goes on;
-- `fork-LAW` of a parallel call; the lemma of the law has the name of its function.
use Rattle.std.specs.Prelude.{◌≡◌, ◌<◌, ◌≤◌, ◌+◌, ℕ, max, Bool, true, List, [], ◌∷◌, ◌++◌, map}
use Rattle.std.specs.List.{sum_by}
use Rattle.std.proofs.Common.{true≢false, sym, ap, ◌∙◌, refl, subst, inl, inr, arith}
use Rattle.std.proofs.lemmas.List.{append_assoc}
use Rattle.std.proofs.lemmas.List.Sorted.{IsPermutation-trans}
use Rattle.std.proofs.lemmas.List.Sums.{sum_by-append}
use Rattle.sf_base.proofs.Elements.{contains-single}
use Rattle.sf_base.proofs.Options.{some-once}
use Rattle.sf_base.specs.declared.ids.ResId.{ResId}
use Rattle.sf_base.specs.declared.path.Turn.TheVariants.{Left as left_turn, Right as right_turn}
use Rattle.sf_core.specs.Machine.Config.{Config, Frame, Path, runs, task_at, waits}
use Rattle.sf_core.specs.Machine.Next.{Next, next}
use Rattle.sf_core.specs.Machine.Reach.{Reach}
use Rattle.sf_core.specs.Machine.SpentSteps.{is_at_or_above}
use Rattle.sf_core.specs.Machine.Step.{Event, Step}
use Rattle.sf_core.specs.Machine.Whole.{Content, Part, Whole, running, waiting}
use Rattle.sf_core.specs.Program.Syntax.{Program}
use Rattle.sf_part.specs.Checked.Laws.{FirstPartsAreWhole, ForksAreSteps, JoinsAreSteps, Leads, PrivateEventsAreSteps, SettlingIsAStep}
use Rattle.sf_part.specs.Checked.LawsOfWhole.{HeldAreOfTheProgram, RunningPartsRun, WaitingPartsWait}
use Rattle.sf_part.specs.Lent.{Lends}
use Rattle.sf_part.specs.Steps.{Joins, Private, Settles}
use Rattle.sf_part.specs.Timed.{Stamped, TimedContent, TimedPart, noted}
use Rattle.sf_setup.proofs.Goes.{keeps-log, keeps-path, under-at, under-child, under-self, under-split}
use Rattle.sf_setup.proofs.Leading.{whole-shift}
use Rattle.sf_setup.specs.Checked.Laws.{SettingUpIsTold}
use Rattle.sf_setup.specs.Checked.Told.{IsLogUpTo}
use Rattle.sf_setup.specs.Going.{GoesBy, stays, steps, forks}
use Rattle.sf_trace.specs.Checked.Lemmas.Logs.{Each, each-append, each-none, each-one, log-append, log-none, log-one}
use Rattle.sf_trace.specs.Checked.Laws.{EqualWeightsPermute, ParallelCallsFork, PrivateActsMeetNobody, RunsHaveTraces, TracesAreRuns, TracesAreUnique}
use Rattle.sf_trace.specs.Logs.{FreesAll, IsLogOf, Precedes, Timed, acts_in, entry_of}
use Rattle.sf_trace.specs.Trace.{Touches}

-- Children of one task
-- nothing is below both
apart : (path other : Path) → is_at_or_above (path ++ left_turn ∷ []) other ≡ true
    → is_at_or_above (path ++ right_turn ∷ []) other ≡ true → ⊥
apart [] [] a b = true≢false (sym a)
apart [] (left_turn ∷ other) a b = true≢false (sym b)
apart [] (right_turn ∷ other) a b = true≢false (sym a)
apart (left_turn ∷ path) [] a b = true≢false (sym a)
apart (left_turn ∷ path) (left_turn ∷ other) a b = apart path other a b
apart (left_turn ∷ path) (right_turn ∷ other) a b = true≢false (sym a)
apart (right_turn ∷ path) [] a b = true≢false (sym a)
apart (right_turn ∷ path) (left_turn ∷ other) a b = true≢false (sym a)
apart (right_turn ∷ path) (right_turn ∷ other) a b = apart path other a b

-- what is below a task is below those above it
under-longer : (path other more : Path) → is_at_or_above path other ≡ true
    → is_at_or_above path (other ++ more) ≡ true
under-longer path other more h =
    let r = under-split path other h in
    subst (λ z. is_at_or_above path z ≡ true)
    (sym (ap (λ z. z ++ more) r.1 ∙ append_assoc path r.0 more)) (under-self path (r.0 ++ more))

-- it touches no resource, and doesn't set them up
abbrev IsQuiet : Program → Next → Type 0
IsQuiet p what = ((r : ResId) → Touches what r → ⊥) × (FreesAll p what → ⊥)

-- so no act of the one child counts before one of the other
apart-acts : (p : Program) (path : Path) (x y : Timed)
    → is_at_or_above (path ++ left_turn ∷ []) x.act.event.task ≡ true
    → is_at_or_above (path ++ right_turn ∷ []) y.act.event.task ≡ true
    → IsQuiet p x.act.what → IsQuiet p y.act.what → Precedes p x.act y.act → ⊥
apart-acts p path x y l r q s (inl (inl same)) =
    apart path y.act.event.task (subst (λ z. is_at_or_above (path ++ left_turn ∷ []) z ≡ true) same l) r
apart-acts p path x y l r q s (inl (inr (inl h))) = q.0 h.0 h.1
apart-acts p path x y l r q s (inl (inr (inr (inl h)))) =
    let child = h.1 in
    apart path y.act.event.task
    (subst (λ z. is_at_or_above (path ++ left_turn ∷ []) z ≡ true) (sym child.1)
    (under-longer (path ++ left_turn ∷ []) x.act.event.task (child.0 ∷ []) l)) r
apart-acts p path x y l r q s (inl (inr (inr (inr h)))) =
    let child = h.1 in
    apart path x.act.event.task l
    (subst (λ z. is_at_or_above (path ++ right_turn ∷ []) z ≡ true) (sym child.1)
    (under-longer (path ++ right_turn ∷ []) y.act.event.task (child.0 ∷ []) r))
apart-acts p path x y l r q s (inr (inl f)) = q.1 f
apart-acts p path x y l r q s (inr (inr f)) = s.1 f

-- Acts with stamps
-- IsTold: the log is of these events, which are of the task at that path or of tasks below it, touch no
-- resource, and are later than the one time and no later than the other
record IsTold (p : Program) (path : Path) (from to : ℕ) (c : Config) (events : List Event) (d : Config)
    (log : List Stamped) : Type 0 where
  is : IsLogOf p c events d log
  late : Each (λ x. from < x.stamp) is.timed
  early : Each (λ x. x.stamp ≤ to) is.timed
  quiet : Each (λ x. IsQuiet p x.act.what) is.timed
  under : Each (λ x. is_at_or_above path x.act.event.task ≡ true) is.timed

module _ (p : Program) (path : Path) where
  told-none : (from : ℕ) (c : Config) → IsTold p path from from c [] c []
  told-none from c = record {
    is = log-none p c;
    late = each-none (λ x. from < x.stamp);
    early = each-none (λ x. x.stamp ≤ from);
    quiet = each-none (λ x. IsQuiet p x.act.what);
    under = each-none (λ x. is_at_or_above path x.act.event.task ≡ true);
  }

  told-one : (from stamp : ℕ) (event : Event) (c d : Config) (s : Step p event c d)
      → IsQuiet p (next s.from) → is_at_or_above path event.task ≡ true → from < stamp
      → IsTold p path from stamp c (event ∷ []) d
      (record { stamp = stamp; task = event.task; number = event.number } ∷ [])
  told-one from stamp event c d s quiet under late =
      let x : Timed = record { act = record { event = event; what = next s.from }; stamp = stamp } in
      record {
        is = log-one p x c d (d, s, refl, refl);
        late = each-one (λ x. from < x.stamp) x late;
        early = each-one (λ x. x.stamp ≤ stamp) x (omega arith);
        quiet = each-one (λ x. IsQuiet p x.act.what) x quiet;
        under = each-one (λ x. is_at_or_above path x.act.event.task ≡ true) x under;
      }

  module _ (events more : List Event) (c d e : Config) (log others : List Stamped) where
    told-then : (from mid to : ℕ) → from ≤ mid → mid ≤ to → IsTold p path from mid c events d log
        → IsTold p path mid to d more e others
        → IsTold p path from to c (events ++ more) e (log ++ others)
    told-then from mid to first last one two = record {
      is = log-append p events more c d e log others one.is two.is (λ x y h k counts.
          let a = one.early x h in let b = two.late y k in omega (arith, a, b));
      late = each-append (λ x. from < x.stamp) one.is.timed two.is.timed one.late (λ x h.
          let b = two.late x h in omega (arith, first, b));
      early = each-append (λ x. x.stamp ≤ to) one.is.timed two.is.timed (λ x h.
          let a = one.early x h in omega (arith, last, a)) two.early;
      quiet = each-append (λ x. IsQuiet p x.act.what) one.is.timed two.is.timed one.quiet two.quiet;
      under = each-append (λ x. is_at_or_above path x.act.event.task ≡ true) one.is.timed two.is.timed
          one.under two.under;
    }

    -- of two children
    told-beside : (from one_to two_to to : ℕ) → one_to ≤ to → two_to ≤ to
        → IsTold p (path ++ left_turn ∷ []) from one_to c events d log
        → IsTold p (path ++ right_turn ∷ []) from two_to d more e others
        → IsTold p path from to c (events ++ more) e (log ++ others)
    told-beside from one_to two_to to first last one two = record {
      is = log-append p events more c d e log others one.is two.is (λ x y h k counts.
          absurd (apart-acts p path x y (one.under x h) (two.under y k) (one.quiet x h) (two.quiet y k)
          counts));
      late = each-append (λ x. from < x.stamp) one.is.timed two.is.timed one.late two.late;
      early = each-append (λ x. x.stamp ≤ to) one.is.timed two.is.timed
          (λ x h. let a = one.early x h in omega (arith, first, a))
          (λ x h. let b = two.early x h in omega (arith, last, b));
      quiet = each-append (λ x. IsQuiet p x.act.what) one.is.timed two.is.timed one.quiet two.quiet;
      under = each-append (λ x. is_at_or_above path x.act.event.task ≡ true) one.is.timed two.is.timed
          (λ x h. under-child path x.act.event.task left_turn (one.under x h))
          (λ x h. under-child path x.act.event.task right_turn (two.under x h));
    }

-- an entry that a part notes, where it keeps a log
noted-sum : (weigh : Stamped → ℕ) (log more : List Stamped) (keeps : Bool) (e : Stamped) → keeps ≡ true
    → more ≡ log ++ noted keeps e
    → sum_by weigh more ≡ sum_by weigh log + sum_by weigh (e ∷ [])
noted-sum weigh log more keeps e on is =
    ap (sum_by weigh) (is ∙ ap (λ z. log ++ noted z e) on) ∙ sum_by-append weigh log (e ∷ [])

-- one event, which leads on
one-step : (p : Program) (event : Event) (c d : Config) → Reach p c (event ∷ []) d → Step p event c d
one-step p event c d r = subst (Step p event c) (sym r.2) r.1

-- A task that goes on
-- IsToldAlone: its events lead to a configuration that has its part, among others that stay; and its log has
-- just their entries more, where it keeps one
record IsToldAlone (p : Program) (contents : List Content) (a b : TimedPart) (events : List Event)
    (before after : List Part) (c : Config) : Type 0 where
  end : Config
  whole : Whole (before ++ b.part ∷ after) contents end
  log : List Stamped
  told : IsTold p a.part.task a.clock b.clock c events end log
  clocks : a.clock ≤ b.clock
  logged : a.keeps ≡ true → (weigh : Stamped → ℕ)
      → sum_by weigh b.log ≡ sum_by weigh a.log + sum_by weigh log

module _ (run_law : RunningPartsRun) (wait_law : WaitingPartsWait) (private_acts : PrivateActsMeetNobody)
    (fork_acts : ParallelCallsFork) (p : Program) (contents : List Content) where
  -- a task that runs makes the step of its frames
  from-running : (before after : List Part) (a : Part) (c d : Config) (event : Event) (frames : List Frame)
      → Whole (before ++ a ∷ after) contents c → event.task ≡ a.task → a.stand ≡ running frames
      → (s : Step p event c d) → s.from ≡ runs frames
  unfolding RunningPartsRun
  from-running before after a c d event frames w own stand s =
      some-once (task_at event.task c.tasks) s.from (runs frames) s.there
      (ap (λ z. task_at z c.tasks) own ∙ run_law before after a contents c frames w stand)

  -- and one that waits joins
  from-waiting : (before after : List Part) (a : Part) (c d : Config) (event : Event) (frames : List Frame)
      → Whole (before ++ a ∷ after) contents c → event.task ≡ a.task → a.stand ≡ waiting frames
      → (s : Step p event c d) → IsQuiet p (next s.from)
  unfolding WaitingPartsWait
  from-waiting before after a c d event frames w own stand s =
      let h = wait_law before after a contents c frames w stand in
      let same : s.from ≡ waits frames h.0 h.1 =
      some-once (task_at event.task c.tasks) s.from (waits frames h.0 h.1) s.there
      (ap (λ z. task_at z c.tasks) own ∙ h.2) in
      subst (λ z. IsQuiet p (next z)) (sym same) ((λ r t. t), (λ t. t))

  -- an event of its own
  alone-private : (a b d : TimedPart) (events : List Event) (event : Event) (before after : List Part)
      (c : Config) → GoesBy p a events b → (r : IsToldAlone p contents a b events before after c)
      → Private p event b d
      → Leads p (event ∷ []) r.end (before ++ b.part ∷ after) (before ++ d.part ∷ after) contents
      → IsToldAlone p contents a d (events ++ event ∷ []) before after c
  unfolding PrivateActsMeetNobody
  alone-private a b d events event before after c go r e l =
      let s = one-step p event r.end l.config l.reaches in
      let from = from-running before after b.part r.end l.config event e.frames r.whole (e.acts).own
      (e.acts).from_is s in
      let meets = private_acts p (next (runs e.frames)) e.private in
      let quiet : IsQuiet p (next (runs e.frames)) = (meets.0, (meets.1).frees) in
      let clock = (e.notes).clock_is in
      let before_it = r.clocks in
      let entry : Stamped = record { stamp = d.clock; task = event.task; number = event.number } in
      let one : IsTold p a.part.task b.clock d.clock r.end (event ∷ []) l.config (entry ∷ []) =
      told-one p a.part.task b.clock d.clock event r.end l.config s
      (subst (λ z. IsQuiet p (next z)) (sym from) quiet)
      (under-at a.part.task event.task ((e.acts).own ∙ keeps-path p a b events go)) (omega (arith, clock)) in
      record {
        end = l.config;
        whole = l.whole;
        log = r.log ++ entry ∷ [];
        told = told-then p a.part.task events (event ∷ []) c r.end l.config r.log (entry ∷ []) a.clock b.clock
            d.clock r.clocks (omega (arith, clock)) r.told one;
        clocks = omega (arith, clock, before_it);
        logged = λ keeps weigh.
            let h = r.logged keeps weigh in
            let n = noted-sum weigh b.log d.log b.keeps entry (keeps-log p a b events go ∙ keeps)
            (e.notes).log_is in
            let m = sum_by-append weigh r.log (entry ∷ []) in
            omega (arith, h, n, m);
      }

  -- a parallel call
  module _ (a b waits_one one two left right d : TimedPart) (events first second : List Event)
      (event later : Event) (before after : List Part) (c : Config) (go : GoesBy p a events b)
      (r : IsToldAlone p contents a b events before after c) (x : Lends p event b waits_one one two)
      (f : Leads p (event ∷ []) r.end (before ++ b.part ∷ after)
      (before ++ waits_one.part ∷ one.part ∷ two.part ∷ after) contents)
      (l : IsToldAlone p contents one left first (before ++ waits_one.part ∷ []) (two.part ∷ after) f.config)
      (q : IsToldAlone p contents two right second ((before ++ waits_one.part ∷ []) ++ left.part ∷ []) after
      l.end)
      (j : Joins p later waits_one left right d) where
    abbrev path : Path
    path = a.part.task

    abbrev waits_at : waits_one.part.task ≡ path
    waits_at = sym ((x.forks).children).task ∙ (((x.forks).acts).task ∙ keeps-path p a b events go)

    abbrev met : ℕ
    met = max waits_one.clock (max left.clock right.clock)

    abbrev forked : Stamped
    forked = record { stamp = waits_one.clock; task = event.task; number = event.number }

    abbrev joined : Stamped
    joined = record { stamp = d.clock; task = later.task; number = later.number }

    in-met : (y z w : ℕ) → (y ≤ max y (max z w)) × (z ≤ max y (max z w)) × (w ≤ max y (max z w))
    in-met y z w = (omega arith, omega arith, omega arith)

    fork-first : IsTold p path b.clock waits_one.clock r.end (event ∷ []) f.config (forked ∷ [])
    unfolding ParallelCallsFork
    fork-first =
        let s = one-step p event r.end f.config f.reaches in
        let from = from-running before after b.part r.end f.config event (x.forks).frames r.whole
        ((x.forks).acts).own ((x.forks).acts).from_is s in
        let meets = fork_acts p (next (runs (x.forks).frames)) (x.forks).fork in
        let quiet : IsQuiet p (next (runs (x.forks).frames)) = (meets.1, meets.3) in
        let clock = ((x.forks).notes).clock_is in
        told-one p path b.clock waits_one.clock event r.end f.config s
        (subst (λ z. IsQuiet p (next z)) (sym from) quiet)
        (under-at path event.task (((x.forks).acts).own ∙ keeps-path p a b events go))
        (omega (arith, clock))

    fork-left : IsTold p (path ++ left_turn ∷ []) waits_one.clock left.clock f.config first l.end l.log
    fork-left =
        let place : one.part.task ≡ path ++ left_turn ∷ [] =
        (((x.forks).children).left_one).task ∙ ap (λ z. z ++ left_turn ∷ []) waits_at in
        subst (λ z. IsTold p z waits_one.clock left.clock f.config first l.end l.log) place
        (subst (λ z. IsTold p one.part.task z left.clock f.config first l.end l.log)
        ((x.forks).left_begins).clock l.told)

    fork-right : IsTold p (path ++ right_turn ∷ []) waits_one.clock right.clock l.end second q.end q.log
    fork-right =
        let place : two.part.task ≡ path ++ right_turn ∷ [] =
        (((x.forks).children).right_one).task ∙ ap (λ z. z ++ right_turn ∷ []) waits_at in
        subst (λ z. IsTold p z waits_one.clock right.clock l.end second q.end q.log) place
        (subst (λ z. IsTold p two.part.task z right.clock l.end second q.end q.log)
        ((x.forks).right_begins).clock q.told)

    fork-both : IsTold p path waits_one.clock met f.config (first ++ second) q.end (l.log ++ q.log)
    fork-both =
        let room = in-met waits_one.clock left.clock right.clock in
        told-beside p path first second f.config l.end q.end l.log q.log waits_one.clock left.clock right.clock
        met room.1 room.2 fork-left fork-right

    fork-whole : Whole (before ++ waits_one.part ∷ left.part ∷ right.part ∷ after) contents q.end
    fork-whole =
        subst (λ z. Whole z contents q.end)
        (append_assoc before (waits_one.part ∷ []) (left.part ∷ right.part ∷ after))
        (subst (λ z. Whole z contents q.end)
        (append_assoc (before ++ waits_one.part ∷ []) (left.part ∷ []) (right.part ∷ after)) q.whole)

    module _ (k : Leads p (later ∷ []) q.end (before ++ waits_one.part ∷ left.part ∷ right.part ∷ after)
        (before ++ d.part ∷ after) contents) where
      fork-last : IsTold p path met d.clock q.end (later ∷ []) k.config (joined ∷ [])
      fork-last =
          let s = one-step p later q.end k.config k.reaches in
          let own : later.task ≡ waits_one.part.task = (j.acts).own ∙ (j.children).task in
          let quiet = from-waiting before (left.part ∷ right.part ∷ after) waits_one.part q.end k.config later
          j.frames fork-whole own (sym (j.children).stand ∙ (j.acts).from_is) s in
          let clock = (j.notes).clock_is in
          told-one p path met d.clock later q.end k.config s quiet
          (under-at path later.task (own ∙ waits_at)) (omega (arith, clock))

      fork-events : events ++ ((event ∷ []) ++ ((first ++ second) ++ later ∷ []))
          ≡ events ++ event ∷ (first ++ (second ++ later ∷ []))
      fork-events = ap (λ z. events ++ event ∷ z) (append_assoc first second (later ∷ []))

      abbrev fork-log : List Stamped
      fork-log = r.log ++ ((forked ∷ []) ++ ((l.log ++ q.log) ++ joined ∷ []))

      fork-clocks : (b.clock ≤ waits_one.clock) × (waits_one.clock ≤ met) × (met ≤ d.clock)
      fork-clocks =
          let one_more = ((x.forks).notes).clock_is in
          let last = (j.notes).clock_is in
          (omega (arith, one_more), (in-met waits_one.clock left.clock right.clock).0, omega (arith, last))

      fork-told : IsTold p path a.clock d.clock c (events ++ event ∷ (first ++ (second ++ later ∷ []))) k.config
          fork-log
      fork-told =
          let t = fork-clocks in
          let t0 = t.0 in
          let t1 = t.1 in
          let t2 = t.2 in
          let last = told-then p path (first ++ second) (later ∷ []) f.config q.end k.config (l.log ++ q.log)
          (joined ∷ []) waits_one.clock met d.clock t1 t2 fork-both fork-last in
          let more = told-then p path (event ∷ []) ((first ++ second) ++ later ∷ []) r.end f.config k.config
          (forked ∷ []) ((l.log ++ q.log) ++ joined ∷ []) b.clock waits_one.clock d.clock t0
          (omega (arith, t1, t2)) fork-first last in
          subst (λ z. IsTold p path a.clock d.clock c z k.config fork-log) fork-events
          (told-then p path events ((event ∷ []) ++ ((first ++ second) ++ later ∷ [])) c r.end k.config r.log
          ((forked ∷ []) ++ ((l.log ++ q.log) ++ joined ∷ [])) a.clock b.clock d.clock r.clocks
          (omega (arith, t0, t1, t2)) r.told more)

      fork-logged : a.keeps ≡ true → (weigh : Stamped → ℕ)
          → sum_by weigh d.log ≡ sum_by weigh a.log + sum_by weigh fork-log
      fork-logged keeps weigh =
          let kept : b.keeps ≡ true = keeps-log p a b events go ∙ keeps in
          let waits_keeps : waits_one.keeps ≡ true = ((x.forks).notes).keeps ∙ kept in
          let h = r.logged keeps weigh in
          let n = noted-sum weigh b.log waits_one.log b.keeps forked kept ((x.forks).notes).log_is in
          let hl = l.logged (((x.forks).left_begins).keeps ∙ waits_keeps) weigh in
          let hr = q.logged (((x.forks).right_begins).keeps ∙ waits_keeps) weigh in
          let el = ap (sum_by weigh) ((x.forks).left_begins).log in
          let er = ap (sum_by weigh) ((x.forks).right_begins).log in
          let m = noted-sum weigh (waits_one.log ++ (left.log ++ right.log)) d.log waits_one.keeps joined
          waits_keeps (j.notes).log_is in
          let s0 = sum_by-append weigh waits_one.log (left.log ++ right.log) in
          let s1 = sum_by-append weigh left.log right.log in
          let t0 = sum_by-append weigh r.log ((forked ∷ []) ++ ((l.log ++ q.log) ++ joined ∷ [])) in
          let t1 = sum_by-append weigh (forked ∷ []) ((l.log ++ q.log) ++ joined ∷ []) in
          let t2 = sum_by-append weigh (l.log ++ q.log) (joined ∷ []) in
          let t3 = sum_by-append weigh l.log q.log in
          omega (arith, h, n, hl, hr, el, er, m, s0, s1, t0, t1, t2, t3)

      alone-fork : (all : List Event) → all ≡ events ++ event ∷ (first ++ (second ++ later ∷ []))
          → IsToldAlone p contents a d all before after c
      alone-fork all is =
          let t = fork-clocks in
          let t0 = t.0 in
          let t1 = t.1 in
          let t2 = t.2 in
          let t3 = r.clocks in
          subst (λ z. IsToldAlone p contents a d z before after c) (sym is)
          (record {
            end = k.config;
            whole = k.whole;
            log = fork-log;
            told = fork-told;
            clocks = omega (arith, t0, t1, t2, t3);
            logged = fork-logged;
          })

  module _ (private_law : PrivateEventsAreSteps) (fork_law : ForksAreSteps) (join_law : JoinsAreSteps) where
    alone-told : (a b : TimedPart) (events : List Event) (before after : List Part) (c : Config)
        → GoesBy p a events b → Whole (before ++ a.part ∷ after) contents c
        → IsToldAlone p contents a b events before after c
    unfolding PrivateEventsAreSteps ForksAreSteps JoinsAreSteps
    alone-told a b events before after c (stays none same) w =
        subst (λ z. IsToldAlone p contents a b z before after c) (sym none)
        (subst (λ z. IsToldAlone p contents a z [] before after c) (sym same) (record {
          end = c;
          whole = w;
          log = [];
          told = told-none p a.part.task a.clock c;
          clocks = omega arith;
          logged = λ keeps weigh. omega arith;
        }))
    alone-told a d all before after c (steps b events event go keeps of e is) w =
        let r = alone-told a b events before after c go w in
        subst (λ z. IsToldAlone p contents a d z before after c) (sym is)
        (alone-private a b d events event before after c go r e
        (private_law p (event ∷ []) b d before after contents r.end (d, e, refl) r.whole))
    alone-told a d all before after c (forks b waits_one one two left right events first second event later go keeps of e go_left go_right j is) w =
        let r = alone-told a b events before after c go w in
        let f = fork_law p event b waits_one one two before after contents r.end e.forks r.whole in
        let l = alone-told one left first (before ++ waits_one.part ∷ []) (two.part ∷ after) f.config go_left
        (whole-shift before (one.part ∷ two.part ∷ after) waits_one.part contents f.config f.whole) in
        let q = alone-told two right second ((before ++ waits_one.part ∷ []) ++ left.part ∷ []) after l.end
        go_right
        (whole-shift (before ++ waits_one.part ∷ []) (two.part ∷ after) left.part contents l.end l.whole) in
        let k = join_law p later waits_one left right d before after contents q.end j
        (fork-whole a b waits_one one two left right d events first second event later before after c go r e f
        l q j) in
        alone-fork a b waits_one one two left right d events first second event later before after c go r e f l
        q j k all is

-- The procedure that sets the resources up
-- its return comes after all that it does
module _ (equal_weights : EqualWeightsPermute) (p : Program) (a m b : TimedPart) (events : List Event)
    (event : Event) (contents : List TimedContent) (before after : List Part) (c d : Config)
    (r : IsToldAlone p [] a m events before after c) (s : Settles p event m contents b)
    (step : Step p event r.end d) where
  abbrev return-entry : Stamped
  return-entry = record { stamp = b.clock; task = event.task; number = event.number }

  abbrev return-act : Timed
  return-act = record { act = record { event = event; what = next step.from }; stamp = b.clock }

  abbrev return-is : IsLogOf p c (events ++ event ∷ []) d (r.log ++ return-entry ∷ [])
  return-is = log-append p events (event ∷ []) c r.end d r.log (return-entry ∷ []) (r.told).is
      (log-one p return-act r.end d (d, step, refl, refl)) (λ x y h k counts.
      let early = (r.told).early x h in
      let same = ap (λ (z : Timed). z.stamp) (contains-single return-act y k) in
      let clock = (s.notes).clock_is in
      omega (arith, early, same, clock))

  return-weighs : a.keeps ≡ true → a.log ≡ [] → m.keeps ≡ true → (weigh : Stamped → ℕ)
      → sum_by weigh (r.log ++ return-entry ∷ []) ≡ sum_by weigh b.log
  return-weighs keeps none on weigh =
      let h = r.logged keeps weigh in
      let e = ap (sum_by weigh) none in
      let n = noted-sum weigh m.log b.log m.keeps return-entry on (s.notes).log_is in
      let t = sum_by-append weigh r.log (return-entry ∷ []) in
      omega (arith, h, e, n, t)

  return-log : a.keeps ≡ true → a.log ≡ [] → m.keeps ≡ true
      → IsLogUpTo p c (events ++ event ∷ []) d b.log b.clock
  unfolding EqualWeightsPermute
  return-log keeps none on = record {
    is = record {
      timed = return-is.timed;
      are = return-is.are;
      traces = return-is.traces;
      entries = IsPermutation-trans (map entry_of return-is.timed) (r.log ++ return-entry ∷ []) b.log
          return-is.entries
          (equal_weights (r.log ++ return-entry ∷ []) b.log (return-weighs keeps none on));
      rising = return-is.rising;
    };
    early = each-append (λ x. x.stamp ≤ b.clock) (r.told).is.timed (return-act ∷ [])
        (λ x h. let e = (r.told).early x h in let clock = (s.notes).clock_is in omega (arith, e, clock))
        (each-one (λ x. x.stamp ≤ b.clock) return-act (omega arith));
  }

-- what the events lead to is one configuration
log-at : RunsHaveTraces → TracesAreUnique → (p : Program) (c d e : Config) (events : List Event)
    (log : List Stamped) (clock : ℕ) → Reach p c events e → IsLogUpTo p c events d log clock
    → IsLogUpTo p c events e log clock
unfolding RunsHaveTraces TracesAreUnique
log-at have unique p c d e events log clock reached h =
    let other = have p events c e reached in
    let same = unique p (acts_in h.is.timed) other.0 c d e h.is.traces other.2 (h.is.are ∙ sym other.1) in
    subst (λ z. IsLogUpTo p c events z log clock) same.1 h

pub setting_up_is_told : FirstPartsAreWhole → PrivateEventsAreSteps → ForksAreSteps → JoinsAreSteps
    → SettlingIsAStep → RunningPartsRun → WaitingPartsWait → HeldAreOfTheProgram → PrivateActsMeetNobody
    → ParallelCallsFork → TracesAreRuns → RunsHaveTraces → TracesAreUnique → EqualWeightsPermute
    → SettingUpIsTold
unfolding SettingUpIsTold FirstPartsAreWhole SettlingIsAStep HeldAreOfTheProgram TracesAreRuns
setting_up_is_told first_law private_law fork_law join_law settle_law run_law wait_law held_law private_acts
    fork_acts trace_law have unique equal_weights p formed o a b contents d x h reached keeps =
    let m = h.between in
    let whole = first_law p o.entry o.store o.heap o.config o.base o.count a [] x.start x.first in
    let r = alone-told run_law wait_law private_acts fork_acts p [] private_law fork_law join_law a m h.events
    [] [] o.config h.goes whole.0 in
    let led : Reach p o.config h.events r.end =
    subst (λ z. Reach p o.config z r.end) (r.told).is.are
    (trace_law p (acts_in (r.told).is.timed) o.config r.end (r.told).is.traces) in
    let k = settle_law p h.event m b contents [] [] [] r.end (h.gives).settles
    (held_law p o.entry o.store o.heap o.config r.end h.events formed x.start led) r.whole in
    let step = one-step p h.event r.end k.config k.reaches in
    log-at have unique p o.config k.config d (h.events ++ h.event ∷ []) b.log b.clock reached
    (return-log equal_weights p a m b h.events h.event contents [] [] o.config k.config r (h.gives).settles step
    keeps (x.first).log (keeps-log p a m h.events h.goes ∙ keeps))
