-- A replay has at most one answer over the same files: its entry, its start, its events and what comes of them are each
-- determined, and no two of its refusals meet.
-- Names: replays-*.
use Rattle.std.proofs.Common.{◌≡◌, ◌∙◌, ℕ, Bool, [], List, Some, ap, subst, sym}
use Rattle.sf_base.proofs.Options.{some-none, some-once}
use Rattle.sf_base.specs.declared.ids.ProcId.{ProcId}
use Rattle.sf_core.specs.Machine.Config.{Config}
use Rattle.sf_core.specs.Machine.Step.{procedure_at}
use Rattle.sf_core.specs.Program.Syntax.{Procedure, Program}
use Rattle.sf_foot.specs.declared.vars.Vars.{Vars}
use Rattle.sf_heap.specs.Cells.{Cells}
use Rattle.sf_io.specs.Shelf.{Files}
use Rattle.sf_machine.specs.Beginning.{Begins}
use Rattle.sf_replay.specs.Checked.Laws.{EventsAreReplayedOnce}
use Rattle.sf_replay.specs.declared.found.Found.{Found}
use Rattle.sf_replay.specs.declared.found.ReplayFault.{ReplayFault}
use Rattle.sf_replay.specs.declared.found.ReplayFault.TheVariants.{NotAnEvent, OutOfMemory}
use Rattle.sf_replay.specs.declared.schedule.Scheduled.{Scheduled}
use Rattle.sf_replay.specs.declared.schedule.ScheduleFault.{ScheduleFault}
use Rattle.sf_replay.specs.Replays.{Finds, FromStart, Stops}
use Rattle.sf_replay.specs.ScheduleText.{GivesSchedule, events_of, schedule_refusal}
use Rattle.sf_run.specs.Checked.Laws.{BeginningsAreUnique}
use Rattle.sf_state.specs.Checked.Laws.{AreDetermined, EntryIsUnique, SameVars, StartIsUnique}
use Rattle.sf_state.specs.Starts.{IsStartFault, IsStartText}
use Rattle.sf_cli.proofs.OneRun.{run-begins}
use Rattle.sf_cli.specs.Checked.Laws.{EachFileIsDecided, EachReplayHasOneAnswer}
use Rattle.sf_cli.specs.FoundText.{found_status, found_text, no_event_text, schedule_refusal_text}
use Rattle.sf_cli.specs.Refusals.{refusal_text}
use Rattle.sf_cli.specs.Replayed.{BegunAnswer, EnteredAnswer, ScheduleAnswer, ScheduleFileAnswer, admitted_replay, begun, is_entered, no_event, no_schedule, not_begun, not_entered, refused_replay, replayed}
use Rattle.sf_cli.specs.StartRefusals.{start_refusal_text}
use Rattle.sf_words.specs.Words.{Text}

-- what the layers below say of replays
pub record ReplayLayers : Type 0 where
  pub files : EachFileIsDecided
  pub entries : EntryIsUnique
  pub starts : StartIsUnique
  pub beginnings : BeginningsAreUnique
  pub events : EventsAreReplayedOnce

-- ---- schedules

-- a text that gives a schedule isn't refused
replays-given : (fields : List Text) (given : Text) (e : ScheduleFault) (schedule : List Scheduled)
    → schedule_refusal fields given ≡ Some e → GivesSchedule fields given schedule → ⊥
replays-given fields given e schedule r g = some-none e (sym r ∙ g.accepted)

-- two that it gives are one
replays-schedule : (fields : List Text) (given : Text) (one other : List Scheduled) → GivesSchedule fields given one
    → GivesSchedule fields given other → other ≡ one
replays-schedule fields given one other g h = h.is ∙ sym g.is

-- why an event is none, printed
fault-text : List Scheduled → ReplayFault → Text
fault-text schedule (NotAnEvent number why) = no_event_text schedule number why
fault-text schedule OutOfMemory = []

-- ---- starts

-- runs from the same variables and cells begin in one configuration
replays-start : BeginningsAreUnique → (p : Program) (f : ProcId) (m n : Bool) (v w : Vars) (h k : Cells)
    (c d : Config) → SameVars v w → h ≡ k → m ≡ n → Begins p f m v h c → Begins p f n w k d → c ≡ d
unfolding BeginningsAreUnique
replays-start begins p f m n v w h k c d s cells same a b =
    let moved : Begins p f n w k c =
    subst (λ (z : Bool). Begins p f z w k c) same
    (subst (λ (z : Cells). Begins p f m w z c) cells (run-begins p f m v w h c s a)) in
    begins p f n w k c d moved b

-- the same start of one procedure, given twice
record Same (p : Program) (f : ProcId) (m n : Bool) (v w : Vars) (h k : Cells) : Type 0 where
  vars : SameVars v w
  cells : h ≡ k
  fresh : m ≡ n

module _ (l : ReplayLayers) (p : Program) (f : ProcId) (m n : Bool) (v w : Vars) (h k : Cells)
    (same : Same p f m n v w h k) where
  start-same : (W V : Config → Type 0) → (a : FromStart p f m v h W) → (b : FromStart p f n w k V) → b.start ≡ a.start
  start-same W V a b = sym (replays-start l.beginnings p f m n v w h k a.start b.start same.vars same.cells same.fresh
      a.begins b.begins)

  -- what is so of the schedule at the other start is so at the first
  at-start : (P : Config → List Scheduled → Type 0) (W : Config → Type 0) (schedule more : List Scheduled)
      → more ≡ schedule → (a : FromStart p f m v h W) → (b : FromStart p f n w k (λ c. P c more)) → P a.start schedule
  at-start P W schedule more e a b =
      subst (λ (z : Config). P z schedule) (start-same W (λ c. P c more) a b)
      (subst (λ (z : List Scheduled). P b.start z) e b.what)

  -- what is found of one schedule from there is one thing
  replays-found : (schedule more : List Scheduled) (one other : Found) → more ≡ schedule
      → FromStart p f m v h (λ c. Finds p c (events_of schedule) one)
      → FromStart p f n w k (λ c. Finds p c (events_of more) other) → one ≡ other
  unfolding EventsAreReplayedOnce
  replays-found schedule more one other e a b =
      (l.events p a.start (events_of schedule)).found one other a.what
      (at-start (λ c s. Finds p c (events_of s) other) (λ c. Finds p c (events_of schedule) one) schedule more e a b)

  -- so is why nothing is
  replays-fault : (schedule more : List Scheduled) (one other : ReplayFault) → more ≡ schedule
      → FromStart p f m v h (λ c. Stops p c (events_of schedule) one)
      → FromStart p f n w k (λ c. Stops p c (events_of more) other) → one ≡ other
  unfolding EventsAreReplayedOnce
  replays-fault schedule more one other e a b =
      (l.events p a.start (events_of schedule)).faults one other a.what
      (at-start (λ c s. Stops p c (events_of s) other) (λ c. Stops p c (events_of schedule) one) schedule more e a b)

  -- and not both
  replays-apart : (schedule more : List Scheduled) (found : Found) (fault : ReplayFault) → more ≡ schedule
      → FromStart p f m v h (λ c. Finds p c (events_of schedule) found)
      → FromStart p f n w k (λ c. Stops p c (events_of more) fault) → ⊥
  unfolding EventsAreReplayedOnce
  replays-apart schedule more found fault e a b =
      (l.events p a.start (events_of schedule)).apart found fault a.what
      (at-start (λ c s. Stops p c (events_of s) fault) (λ c. Finds p c (events_of schedule) found) schedule more e a b)

  replays-apart_back : (schedule more : List Scheduled) (found : Found) (fault : ReplayFault) → more ≡ schedule
      → FromStart p f m v h (λ c. Stops p c (events_of schedule) fault)
      → FromStart p f n w k (λ c. Finds p c (events_of more) found) → ⊥
  unfolding EventsAreReplayedOnce
  replays-apart_back schedule more found fault e a b =
      (l.events p a.start (events_of schedule)).apart found fault
      (at-start (λ c s. Finds p c (events_of s) found) (λ c. Stops p c (events_of schedule) fault) schedule more e a b)
      a.what

  -- the text of a schedule has one answer
  replays-text : (given text other : Text) (status code : ℕ) → ScheduleAnswer p f m v h given text status
      → ScheduleAnswer p f n w k given other code → (text ≡ other) × (status ≡ code)
  unfolding fault-text
  replays-text given text other status code (no_schedule e r t s) (no_schedule q x u y) =
      (t ∙ ap schedule_refusal_text (some-once (schedule_refusal p.fields given) e q r x) ∙ sym u, s ∙ sym y)
  replays-text given text other status code (no_schedule e r t s) (no_event more number why g b u y) =
      absurd (replays-given p.fields given e more r g)
  replays-text given text other status code (no_schedule e r t s) (replayed more found g b u y) =
      absurd (replays-given p.fields given e more r g)
  replays-text given text other status code (no_event schedule number why g a t s) (no_schedule e r u y) =
      absurd (replays-given p.fields given e schedule r g)
  replays-text given text other status code (no_event schedule number why g a t s) (no_event more count because i b u y) =
      let one = replays-schedule p.fields given schedule more g i in
      let fault = replays-fault schedule more (NotAnEvent number why) (NotAnEvent count because) one a b in (
        t ∙ ap (fault-text schedule) fault
            ∙ sym (u ∙ ap (λ (z : List Scheduled). no_event_text z count because) one),
        s ∙ sym y,
      )
  replays-text given text other status code (no_event schedule number why g a t s) (replayed more found i b u y) =
      absurd (replays-apart_back schedule more found (NotAnEvent number why)
      (replays-schedule p.fields given schedule more g i) a b)
  replays-text given text other status code (replayed schedule found g a t s) (no_schedule e r u y) =
      absurd (replays-given p.fields given e schedule r g)
  replays-text given text other status code (replayed schedule found g a t s) (no_event more count because i b u y) =
      absurd (replays-apart schedule more found (NotAnEvent count because)
      (replays-schedule p.fields given schedule more g i) a b)
  replays-text given text other status code (replayed schedule found g a t s) (replayed more another i b u y) =
      let one = replays-found schedule more found another (replays-schedule p.fields given schedule more g i) a b in
      (t ∙ ap (found_text p) one ∙ sym u, s ∙ ap found_status one ∙ sym y)

  -- so has its file
  replays-file : (files : Files) (name text other : Text) (status code : ℕ)
      → ScheduleFileAnswer (Some files) p f m v h name text status
      → ScheduleFileAnswer (Some files) p f n w k name other code → (text ≡ other) × (status ≡ code)
  replays-file files name text other status code (given, may, a) (read, has, b) =
      let one : read ≡ given = some-once (files name) read given has may in
      replays-text given text other status code a
      (subst (λ (z : Text). ScheduleAnswer p f n w k z other code) one b)

-- ---- answers

-- the text of a state has one answer
replays-state : ReplayLayers → (files : Files) (p : Program) (f : ProcId) (given name text other : Text)
    (status code : ℕ) → AreDetermined p → BegunAnswer (Some files) p f given name text status
    → BegunAnswer (Some files) p f given name other code → (text ≡ other) × (status ≡ code)
unfolding StartIsUnique
replays-state l files p f given name text other status code d (not_begun g e there x t s) (not_begun h q at y u v) =
    let same : h ≡ g = some-once (procedure_at p f) h g at there in
    let once = l.starts p f g given d there in (
      t ∙ ap start_refusal_text (once.faults e q x (subst (λ (z : Procedure). IsStartFault p z given q) same y)) ∙ sym u,
      s ∙ sym v,
    )
replays-state l files p f given name text other status code d (not_begun g e there x t s)
    (begun h vars heap parts unit fresh at y a) =
    let same : h ≡ g = some-once (procedure_at p f) h g at there in
    absurd ((l.starts p f g given d there).apart vars heap parts unit fresh e
    (subst (λ (z : Procedure). IsStartText p f z given vars heap parts unit fresh) same y) x)
replays-state l files p f given name text other status code d (begun g vars heap parts unit fresh there x a)
    (not_begun h e at y u v) =
    let same : h ≡ g = some-once (procedure_at p f) h g at there in
    absurd ((l.starts p f g given d there).apart vars heap parts unit fresh e x
    (subst (λ (z : Procedure). IsStartFault p z given e) same y))
replays-state l files p f given name text other status code d (begun g vars heap parts unit fresh there x a)
    (begun h others more rest first anew at y b) =
    let same : h ≡ g = some-once (procedure_at p f) h g at there in
    let moved : IsStartText p f g given others more rest first anew =
    subst (λ (z : Procedure). IsStartText p f z given others more rest first anew) same y in
    let once = l.starts p f g given d there in
    replays-file l p f fresh anew vars others heap more (record {
      vars = once.variables vars others heap more parts rest unit first fresh anew x moved;
      cells = once.cells vars others heap more parts rest unit first fresh anew x moved;
      fresh = once.fresh vars others heap more parts rest unit first fresh anew x moved;
    }) files name text other status code a b

-- so has a program with which nothing is wrong
replays-program : ReplayLayers → (files : Files) (p : Program) (entry state_name schedule_name text other : Text)
    (status code : ℕ) → AreDetermined p → EnteredAnswer (Some files) p entry state_name schedule_name text status
    → EnteredAnswer (Some files) p entry state_name schedule_name other code → (text ≡ other) × (status ≡ code)
unfolding EntryIsUnique
replays-program l files p entry state_name schedule_name text other status code d (not_entered e x t s)
    (not_entered q y u v) =
    (t ∙ ap start_refusal_text ((l.entries p entry).faults e q x y) ∙ sym u, s ∙ sym v)
replays-program l files p entry state_name schedule_name text other status code d (not_entered e x t s)
    (is_entered f y b) =
    absurd ((l.entries p entry).apart f e y x)
replays-program l files p entry state_name schedule_name text other status code d (is_entered f x a)
    (not_entered e y u v) =
    absurd ((l.entries p entry).apart f e x y)
replays-program l files p entry state_name schedule_name text other status code d (is_entered f x (given, may, a))
    (is_entered g y (found, has, b)) =
    let same : g ≡ f = (l.entries p entry).entries g f y x in
    let read : found ≡ given = some-once (files state_name) found given has may in
    replays-state l files p f given schedule_name text other status code d a
    (subst (λ (z : ProcId). BegunAnswer (Some files) p z given schedule_name other code) same
    (subst (λ (z : Text). BegunAnswer (Some files) p g z schedule_name other code) read b))

-- and so has its file
pub replays-once : ReplayLayers → EachReplayHasOneAnswer
replays-once l files bytes entry state_name schedule_name text other status code (refused_replay r f t s)
    (refused_replay q g u v) =
    (t ∙ ap refusal_text ((l.files bytes).causes r q f g) ∙ sym u, s ∙ sym v)
replays-once l files bytes entry state_name schedule_name text other status code (refused_replay r f t s)
    (admitted_replay p a k) =
    absurd ((l.files bytes).apart p r a f)
replays-once l files bytes entry state_name schedule_name text other status code (admitted_replay p a k)
    (refused_replay r f t s) =
    absurd ((l.files bytes).apart p r a f)
replays-once l files bytes entry state_name schedule_name text other status code (admitted_replay p a k)
    (admitted_replay q b m) =
    let program : q ≡ p = (l.files bytes).programs q p b a in
    replays-program l files p entry state_name schedule_name text other status code a.determined k
    (subst (λ (z : Program). EnteredAnswer (Some files) z entry state_name schedule_name other code) program m)
