-- A replay has an answer, where the files of the state and of the schedule are there; and of a program that is proved it
-- is never that something bad is found.
-- Names: some-*, what is found at each step of the way; clean-*, that it is nothing bad.
use Rattle.std.proofs.Common.{◌≡◌, ℕ, Bool, List, Option, Some, None, ap, arith, inl, inr, refl, subst}
use Rattle.sf_base.specs.declared.ids.ProcId.{ProcId}
use Rattle.sf_core.specs.Machine.Sound.{IsSound}
use Rattle.sf_core.specs.Machine.Step.{Event}
use Rattle.sf_core.specs.Program.Formed.{IsFormed}
use Rattle.sf_core.specs.Program.Syntax.{Program}
use Rattle.sf_elab.specs.Checked.Laws.{ElaboratedIsFormed}
use Rattle.sf_foot.specs.declared.vars.Vars.{Vars}
use Rattle.sf_foot.specs.Starting.{StartsWith}
use Rattle.sf_heap.specs.Cells.{Cells}
use Rattle.sf_io.specs.Shelf.{Files}
use Rattle.sf_parse.specs.Checked.Laws.{EachFileIsShallow}
use Rattle.sf_replay.specs.Checked.Laws.{SoundRunsAreClean, StartsAreReplayed}
use Rattle.sf_replay.specs.declared.found.Found.{Found}
use Rattle.sf_replay.specs.declared.found.Found.TheVariants.{Clean}
use Rattle.sf_replay.specs.declared.found.ReplayFault.{ReplayFault}
use Rattle.sf_replay.specs.declared.found.ReplayFault.TheVariants.{NotAnEvent, OutOfMemory}
use Rattle.sf_replay.specs.declared.schedule.Scheduled.{Scheduled}
use Rattle.sf_replay.specs.declared.schedule.ScheduleFault.{ScheduleFault}
use Rattle.sf_replay.specs.Replays.{Finds, FromStart, Stops}
use Rattle.sf_replay.specs.ScheduleText.{GivesSchedule, events_from, events_of, lines_kept, schedule_refusal, skipped}
use Rattle.sf_run.specs.Checked.Laws.{BeginningsAreStarts}
use Rattle.sf_sound.specs.Proofs.{ProofsAreSound}
use Rattle.sf_state.specs.Checked.Laws.{AreDetermined, EntryExists, StartExists}
use Rattle.sf_state.specs.Entering.{IsEntry}
use Rattle.sf_cli.proofs.Accepted.{accepted-formed, accepted-program}
use Rattle.sf_cli.proofs.ARun.{some-procedure}
use Rattle.sf_cli.specs.Answer.{AcceptedBytes, FileAnswer, admitted, refused}
use Rattle.sf_cli.specs.Checked.Laws.{AcceptedFilesAreReplayedSafely, AcceptedFilesAreSound, EachFileHasAnAnswer, EachFileIsDecided, EachReplayHasAnAnswer, ProvedProgramsAreReplayedSafely}
use Rattle.sf_cli.specs.FoundText.{found_status, found_text, no_event_text, schedule_refusal_text}
use Rattle.sf_cli.specs.Refusals.{refusal_text}
use Rattle.sf_cli.specs.Replayed.{BegunAnswer, EnteredAnswer, ReplayAnswer, ScheduleAnswer, admitted_replay, begun, is_entered, no_event, no_schedule, not_begun, not_entered, refused_replay, replayed}
use Rattle.sf_cli.specs.StartRefusals.{start_refusal_text}
use Rattle.sf_words.specs.Words.{Text}

-- what the layers below say of replays
pub record ReplayAnswers : Type 0 where
  pub files : EachFileHasAnAnswer
  pub shallow : EachFileIsShallow
  pub formed : ElaboratedIsFormed
  pub entries : EntryExists
  pub starts : StartExists
  pub events : StartsAreReplayed

-- an answer to the text of a schedule
abbrev SomeAnswer : Program → ProcId → Bool → Vars → Cells → (given : Text) → Type 0
SomeAnswer p f fresh vars heap given =
    (text : Text) × (status : ℕ) × ScheduleAnswer p f fresh vars heap given text status

-- why an event is none has an answer
some-fault : (p : Program) (f : ProcId) (fresh : Bool) (vars : Vars) (heap : Cells) (given : Text)
    (schedule : List Scheduled) (fault : ReplayFault) → GivesSchedule p.fields given schedule
    → FromStart p f fresh vars heap (λ c. Stops p c (events_of schedule) fault) → SomeAnswer p f fresh vars heap given
some-fault p f fresh vars heap given schedule (NotAnEvent number why) g h =
    (no_event_text schedule number why, 11, no_event schedule number why g h refl refl)
some-fault p f fresh vars heap given schedule OutOfMemory g h = absurd h.what

-- the text of a schedule has an answer, where it isn't refused
some-events : StartsAreReplayed → (p : Program) (f : ProcId) (fresh : Bool) (vars : Vars) (heap : Cells)
    (parts : List (List ℕ)) (given : Text) (schedule : List Scheduled) → IsFormed p
    → StartsWith p f fresh vars heap parts → GivesSchedule p.fields given schedule
    → SomeAnswer p f fresh vars heap given
unfolding StartsAreReplayed
some-events law p f fresh vars heap parts given schedule formed starts g =
    let h = law p f fresh vars heap parts (events_of schedule) formed starts in
    elim h.what [
      | inl k ↦ (
        found_text p k.0,
        found_status k.0,
        replayed schedule k.0 g (record { start = h.start; begins = h.begins; what = k.1 }) refl refl,
      )
      | inr k ↦ some-fault p f fresh vars heap given schedule k.0 g
          (record { start = h.start; begins = h.begins; what = k.1 })
    ]

-- the text of a schedule has an answer
some-schedule : StartsAreReplayed → (p : Program) (f : ProcId) (fresh : Bool) (vars : Vars) (heap : Cells)
    (parts : List (List ℕ)) (given : Text) → IsFormed p → StartsWith p f fresh vars heap parts
    → SomeAnswer p f fresh vars heap given
some-schedule law p f fresh vars heap parts given formed starts = go (schedule_refusal p.fields given) refl
  where
    go : (o : Option ScheduleFault) → schedule_refusal p.fields given ≡ o → SomeAnswer p f fresh vars heap given
    go (Some e) r = (schedule_refusal_text e, 11, no_schedule e r refl refl)
    go None r = some-events law p f fresh vars heap parts given
        (events_from p.fields (skipped given) (lines_kept given)) formed starts (record { accepted = r; is = refl })

-- so has the text of a state, where the schedule's file is there
some-begun : ReplayAnswers → (files : Files) (p : Program) (entry : Text) (f : ProcId) (given name events : Text)
    → files name ≡ Some events → IsFormed p → AreDetermined p → IsEntry p entry f
    → (text : Text) × (status : ℕ) × BegunAnswer (Some files) p f given name text status
unfolding StartExists
some-begun l files p entry f given name events there formed determined is =
    let (g, at) = some-procedure p entry f is in
    elim (l.starts p f g given formed determined at is.free is.other) [
      | inl found ↦
          let (vars, heap, parts, unit, fresh, start) = found in
          let said = some-schedule l.events p f fresh vars heap parts events formed start.starts in
          (said.0, said.1, begun g vars heap parts unit fresh at start (events, there, said.2))
      | inr fault ↦ (start_refusal_text fault.0, 5, not_begun g fault.0 at fault.1 refl refl)
    ]

-- so has a program with which nothing is wrong, where the state's file is there too
some-entered : ReplayAnswers → (files : Files) (p : Program) (entry state_name schedule_name given events : Text)
    → files state_name ≡ Some given → files schedule_name ≡ Some events → IsFormed p → AreDetermined p
    → (text : Text) × (status : ℕ) × EnteredAnswer (Some files) p entry state_name schedule_name text status
unfolding EntryExists
some-entered l files p entry state_name schedule_name given events there too formed determined =
    elim (l.entries p entry formed) [
      | inr fault ↦ (start_refusal_text fault.0, 5, not_entered fault.0 fault.1 refl refl)
      | inl found ↦
          let said = some-begun l files p entry found.0 given schedule_name events too formed determined found.1 in
          (said.0, said.1, is_entered found.0 found.1 (given, there, said.2))
    ]

-- so has its file
pub some-replay : ReplayAnswers → EachReplayHasAnAnswer
some-replay l files bytes entry state_name schedule_name given events there too =
    let answer = l.files bytes in go answer.0 answer.1 answer.2
  where
    go : (text : Text) (status : ℕ) → FileAnswer bytes text status
        → (said : Text) × (code : ℕ) × ReplayAnswer (Some files) bytes entry state_name schedule_name said code
    go text status (refused r f t s) = (refusal_text r, 3, refused_replay r f refl refl)
    go text status (admitted p a k) =
        let said = some-entered l files p entry state_name schedule_name given events there too
        (accepted-formed l.shallow l.formed bytes p a.reads) a.determined in
        (said.0, said.1, admitted_replay p a said.2)

-- ---- programs that are proved

-- from a start of a sound program nothing bad is found
clean-start : SoundRunsAreClean → BeginningsAreStarts → (p : Program) (f : ProcId) (fresh : Bool) (vars : Vars)
    (heap : Cells) (parts : List (List ℕ)) (events : List Event) (found : Found) → IsSound p
    → StartsWith p f fresh vars heap parts → FromStart p f fresh vars heap (λ c. Finds p c events found)
    → found ≡ Clean
unfolding SoundRunsAreClean BeginningsAreStarts
clean-start law begins p f fresh vars heap parts events found sound starts h =
    let start = begins p f fresh vars heap parts h.start starts h.begins in
    law p f start.0 _ h.start events found sound start.1 h.what

clean-status : (found : Found) (status : ℕ) → found ≡ Clean → status ≡ found_status found → status ≡ 10 → ⊥
clean-status found status e s ten =
    let zero : found_status found ≡ 0 = ap found_status e in absurd (omega (arith, zero, s, ten))

clean-schedule : SoundRunsAreClean → BeginningsAreStarts → (p : Program) (f : ProcId) (fresh : Bool) (vars : Vars)
    (heap : Cells) (parts : List (List ℕ)) (given text : Text) (status : ℕ) → IsSound p
    → StartsWith p f fresh vars heap parts → ScheduleAnswer p f fresh vars heap given text status → status ≡ 10 → ⊥
clean-schedule law begins p f fresh vars heap parts given text status sound starts (no_schedule e r t s) ten =
    absurd (omega (arith, s, ten))
clean-schedule law begins p f fresh vars heap parts given text status sound starts
    (no_event schedule number why g h t s) ten =
    absurd (omega (arith, s, ten))
clean-schedule law begins p f fresh vars heap parts given text status sound starts (replayed schedule found g h t s) ten =
    clean-status found status (clean-start law begins p f fresh vars heap parts (events_of schedule) found sound starts h)
    s ten

clean-begun : SoundRunsAreClean → BeginningsAreStarts → (told : Option Files) (p : Program) (f : ProcId)
    (given name text : Text) (status : ℕ) → IsSound p → BegunAnswer told p f given name text status → status ≡ 10 → ⊥
clean-begun law begins told p f given name text status sound (not_begun g e there x t s) ten =
    absurd (omega (arith, s, ten))
clean-begun law begins told p f given name text status sound (begun g vars heap parts unit fresh there x (events, may, a))
    ten =
    clean-schedule law begins p f fresh vars heap parts events text status sound x.starts a ten

clean-entered : SoundRunsAreClean → BeginningsAreStarts → (told : Option Files) (p : Program)
    (entry state_name schedule_name text : Text) (status : ℕ) → IsSound p
    → EnteredAnswer told p entry state_name schedule_name text status → status ≡ 10 → ⊥
clean-entered law begins told p entry state_name schedule_name text status sound (not_entered e x t s) ten =
    absurd (omega (arith, s, ten))
clean-entered law begins told p entry state_name schedule_name text status sound (is_entered f x (given, may, a)) ten =
    clean-begun law begins told p f given schedule_name text status sound a ten

-- of a program that tags prove, nothing bad is found
pub clean-proved : SoundRunsAreClean → BeginningsAreStarts → EachFileIsShallow → ElaboratedIsFormed → ProofsAreSound
    → ProvedProgramsAreReplayedSafely
clean-proved law begins shallow formed proofs bytes p a d own tags proves told entry state_name schedule_name text status
    k ten =
    clean-entered law begins told p entry state_name schedule_name text status
    (accepted-program proofs p tags d own (accepted-formed shallow formed bytes p a.reads) a.conditions a.determined
    proves) k ten

-- nor of a file that is accepted
pub clean-accepted : SoundRunsAreClean → BeginningsAreStarts → EachFileIsDecided → AcceptedFilesAreSound
    → AcceptedFilesAreReplayedSafely
clean-accepted law begins decided sound told bytes shown entry state_name schedule_name text status v
    (refused_replay r f t s) ten =
    absurd (omega (arith, s, ten))
clean-accepted law begins decided sound told bytes shown entry state_name schedule_name text status v
    (admitted_replay p a k) ten =
    let accepted : AcceptedBytes bytes = sound bytes shown v in
    let same : accepted.program ≡ p = (decided bytes).programs accepted.program p accepted.admits a in
    clean-entered law begins told p entry state_name schedule_name text status (subst IsSound same accepted.sound) k ten
