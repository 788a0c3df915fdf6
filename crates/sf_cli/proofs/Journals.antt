-- What a run whose events are told promises: the list that is told leads from the start to the end that is told. And that
-- it has an answer where the run has one.
-- Names: journal-*.
use Rattle.std.proofs.Common.{◌≡◌, ◌≢◌, ◌<◌, ◌++◌, ℕ, zero, suc, Bool, List, Option, Some, None, ap, arith, inl, length, refl, subst, sym, ◌∙◌}
use Rattle.std.specs.Prelude.{Contains, is_some}
use Rattle.std.specs.FinMap.{get}
use Rattle.std.specs.Option.{option_map}
use Rattle.sf_base.proofs.Options.{some-none}
use Rattle.sf_base.specs.HeapStore.{Cell}
use Rattle.sf_base.specs.declared.ids.ProcId.{ProcId}
use Rattle.sf_base.specs.declared.value.Value.TheVariants.{Nil as nil}
use Rattle.sf_core.specs.Machine.Config.{Config}
use Rattle.sf_core.specs.Machine.Reach.{Reach}
use Rattle.sf_core.specs.Machine.Sound.{IsSound}
use Rattle.sf_core.specs.Machine.Step.{Event, procedure_at}
use Rattle.sf_core.specs.Program.Formed.{IsFormed}
use Rattle.sf_core.specs.Program.Syntax.{Procedure, Program}
use Rattle.sf_elab.specs.Checked.Laws.{ElaboratedIsFormed}
use Rattle.sf_foot.specs.declared.vars.Vars.{Vars}
use Rattle.sf_foot.specs.Starting.{IsFreshFrom, StartsWith}
use Rattle.sf_heap.specs.Cells.{Cells, FieldValues, cell_of, heap_of}
use Rattle.sf_io.specs.Shelf.{Files}
use Rattle.sf_journal.specs.Checked.Laws.{IsNeverBad, MergedCellsAreEmpty, MergedLogsReachTheSame, RunsHaveJournals}
use Rattle.sf_machine.specs.Beginning.{Begins}
use Rattle.sf_parse.specs.Checked.Laws.{EachFileIsShallow}
use Rattle.sf_replay.specs.ScheduleText.{events_of}
use Rattle.sf_run.specs.Checked.Laws.{BeginningsAreStarts, NumberedRunsReach}
use Rattle.sf_search.specs.Checked.Laws.{TakenTagsProve}
use Rattle.sf_sound.specs.Proofs.{ProofsAreSound}
use Rattle.sf_state.specs.Starts.{IsStartText}
use Rattle.sf_cli.proofs.Accepted.{accepted-formed, accepted-judged}
use Rattle.sf_cli.specs.Answer.{EndedJournal, EndedRun, JournalAnswer, RunAnswer, RunJournal, admitted_run, entered, no_entry, refused_run, unproved}
use Rattle.sf_cli.specs.Checked.Laws.{EachJournalHasAnAnswer, EachRunHasAnAnswer, JournalsReachTheirEnds}
use Rattle.sf_cli.specs.Journaled.{StateJournal, journaled, schedule_text, unfinished}
use Rattle.sf_cli.specs.Ran.{MayCome, ended, no_start, ran, spent_steps, spent_waits}
use Rattle.sf_cli.specs.SoundFile.{MayHave}
use Rattle.sf_words.specs.Words.{Text}

-- what the layers below say of the events of a run
pub record JournalLayers : Type 0 where
  pub merged : MergedLogsReachTheSame
  pub empty : MergedCellsAreEmpty
  pub starts : BeginningsAreStarts

-- ---- where the list leads

-- from a start of a sound program nothing bad is reached
journal-never : (p : Program) (f : ProcId) (vars : Vars) (heap : Cells) (fresh : Bool) (parts : List (List ℕ))
    (start : Config) → BeginningsAreStarts → IsSound p → StartsWith p f fresh vars heap parts
    → Begins p f fresh vars heap start → IsNeverBad p start
unfolding BeginningsAreStarts
journal-never p f vars heap fresh parts start law sound starts begins events c reach bad =
    let (store, is) = law p f fresh vars heap parts start starts begins in
    (sound f store (heap_of heap) start c events is reach).never_bad bad

-- the locations of its cells are below its first unit
journal-cells : (vars : Vars) (heap : Cells) (unit location : ℕ) (cell : Cell) → IsFreshFrom vars heap unit
    → heap_of heap location ≡ Some cell → location < unit
journal-cells vars heap unit location cell fresh there = go (get heap location) refl
  where
    go : (o : Option FieldValues) → get heap location ≡ o → location < unit
    go None e = absurd (some-none cell (sym there ∙ ap (option_map cell_of) e))
    go (Some values) e = fresh.1 location (inl (ap is_some e))

-- the list leads to the end
journal-reached : JournalLayers → (p : Program) (f : ProcId) (given : Text) (steps : ℕ) (shown : Text)
    (events : List Event) → IsFormed p → IsSound p → (j : StateJournal p f given steps shown events)
    → Reach p j.journal.start events j.journal.last
unfolding BeginningsAreStarts MergedLogsReachTheSame
journal-reached l p f given steps shown events formed sound j =
    let k = j.journal in
    let starts = j.starts.starts in
    let (store, is) = l.starts p f j.fresh j.vars j.heap j.parts k.start starts k.begins in
    let (schedule, merges, are) = k.merged in
    subst (λ (list : List Event). Reach p k.start list k.last) (sym are)
    (l.merged p f store (heap_of j.heap) k.start k.last j.unit steps (length p.fields) k.made k.log schedule formed is
    (journal-never p f j.vars j.heap j.fresh j.parts k.start l.starts sound starts k.begins)
    (λ location cell there. journal-cells j.vars j.heap j.unit location cell j.starts.first_unit.0
    (sym (ap (λ (c : Config). c.common.heap location) is.is) ∙ there)) k.numbered k.logged merges)

-- each cell of it stands at its event's number
journal-empty : JournalLayers → (p : Program) (f : ProcId) (given : Text) (steps : ℕ) (shown : Text)
    (events : List Event) (event : Event) → StateJournal p f given steps shown events → Contains events event
    → (event.at ≡ event.number)
    × ((field : ℕ) → event.fields field ≡ nil)
unfolding MergedCellsAreEmpty
journal-empty l p f given steps shown events event j within =
    let (schedule, merges, are) = j.journal.merged in
    l.empty (length p.fields) j.journal.log schedule event merges (subst (λ (list : List Event). Contains list event) are within)

-- the run that it is of
abbrev journal-run : (told : Option Files) (file bytes entry state_name : Text) (steps : ℕ) (shown : Text)
    (events : List Event) → MayHave told file bytes → (r : RunJournal told bytes entry state_name steps shown events)
    → EndedRun told file entry state_name steps shown
journal-run told file bytes entry state_name steps shown events may r = record {
  bytes = bytes;
  may_have = may;
  program = r.program;
  admits = r.admits;
  f = r.journal.f;
  procedure = r.journal.journal.procedure;
  there = r.journal.journal.there;
  is_entry = r.journal.is_run.is_entry;
  given = r.journal.given;
  has = r.journal.has;
  vars = r.journal.journal.vars;
  heap = r.journal.journal.heap;
  parts = r.journal.journal.parts;
  unit = r.journal.journal.unit;
  fresh = r.journal.journal.fresh;
  starts = r.journal.journal.starts;
  start = r.journal.journal.journal.start;
  begins = r.journal.journal.journal.begins;
  events = r.journal.journal.journal.made;
  last = r.journal.journal.journal.last;
  numbered = r.journal.journal.journal.numbered;
  ended = r.journal.journal.journal.ended;
  is = r.journal.journal.journal.is;
}

-- what is answered with status 0 promises it
pub journal-ended : JournalLayers → EachFileIsShallow → ElaboratedIsFormed → TakenTagsProve → ProofsAreSound
    → JournalsReachTheirEnds
journal-ended l shallow formed prove law told file entry state_name text steps waits (bytes, may, a) = go a
  where
    go : JournalAnswer told bytes entry state_name steps waits text 0
        → EndedJournal told file entry state_name steps text
    go (unfinished n k) = absurd (n refl)
    go (journaled shown events k r is z) =
        let j = r.journal.journal in
        record {
          shown = shown;
          run = journal-run told file bytes entry state_name steps shown events may r;
          events = events;
          reached = journal-reached l r.program r.journal.f r.journal.given steps shown events
              (accepted-formed shallow formed bytes r.program r.admits.reads)
              (accepted-judged shallow formed prove law bytes r.program r.admits r.journal.is_run.proved) j;
          empty = λ event within. journal-empty l r.program r.journal.f r.journal.given steps shown events event j within;
          is = is;
        }

-- ---- an answer

-- a run that has ended has a journal
journal-of : RunsHaveJournals → NumberedRunsReach → (p : Program) (f : ProcId) (g : Procedure) (given : Text) (vars : Vars) (heap : Cells)
    (parts : List (List ℕ)) (unit : ℕ) (fresh : Bool) (steps waits : ℕ) (text : Text) (status : ℕ) (start : Config)
    → procedure_at p f ≡ Some g → IsStartText p f g given vars heap parts unit fresh → Begins p f fresh vars heap start
    → status ≡ 0 → MayCome p g start unit steps waits text status
    → (events : List Event) × StateJournal p f given steps text events
unfolding RunsHaveJournals NumberedRunsReach
journal-of law reaches p f g given vars heap parts unit fresh steps waits text status start there starts begins z
    (ended made last numbered h is s) =
    let (log, logged, schedule, merges) = law p start last made (length p.fields)
    (reaches p start last unit steps made numbered) in (
      events_of schedule,
      record {
        procedure = g;
        there = there;
        vars = vars;
        heap = heap;
        parts = parts;
        unit = unit;
        fresh = fresh;
        starts = starts;
        journal = record {
          start = start;
          begins = begins;
          made = made;
          last = last;
          numbered = numbered;
          ended = h;
          is = is;
          log = log;
          logged = logged;
          merged = (schedule, merges, refl);
        };
      },
    )
journal-of law reaches p f g given vars heap parts unit fresh steps waits text status start there starts begins z
    (spent_steps path used h t six) = absurd (omega (arith, z, six))
journal-of law reaches p f g given vars heap parts unit fresh steps waits text status start there starts begins z
    (spent_waits path r h t six) = absurd (omega (arith, z, six))

-- so has one of a file's program
journal-of_run : RunsHaveJournals → NumberedRunsReach → (told : Option Files) (bytes entry state_name text : Text) (steps waits status : ℕ)
    → status ≡ 0 → RunAnswer told bytes entry state_name steps waits text status
    → (events : List Event) × RunJournal told bytes entry state_name steps text events
journal-of_run law reaches told bytes entry state_name text steps waits status z (refused_run r f t three) =
    absurd (omega (arith, z, three))
journal-of_run law reaches told bytes entry state_name text steps waits status z (admitted_run p a (unproved k one)) =
    absurd (omega (arith, z, one))
journal-of_run law reaches told bytes entry state_name text steps waits status z (admitted_run p a (no_entry e i x t five)) =
    absurd (omega (arith, z, five))
journal-of_run law reaches told bytes entry state_name text steps waits status z
    (admitted_run p a (entered f given i has (no_start g e there x t five))) = absurd (omega (arith, z, five))
journal-of_run law reaches told bytes entry state_name text steps waits status z
    (admitted_run p a (entered f given i has (ran g vars heap parts unit fresh there starts k))) =
    let (events, j) = journal-of law reaches p f g given vars heap parts unit fresh steps waits text status k.start there starts
    k.begins z k.may in (
      events,
      record {
        program = p;
        admits = a;
        journal = record { f = f; given = given; is_run = i; has = has; journal = j };
      },
    )

-- so a run has an answer with its events, where it has one
pub journal-some : RunsHaveJournals → NumberedRunsReach → EachRunHasAnAnswer → EachJournalHasAnAnswer
journal-some law reaches runs files bytes entry state_name given steps waits there one =
    let (text, status, a) = runs files bytes entry state_name given steps waits there one in go text status a
  where
    go : (text : Text) (status : ℕ) → RunAnswer (Some files) bytes entry state_name steps waits text status
        → (said : Text) × (code : ℕ) × JournalAnswer (Some files) bytes entry state_name steps waits said code
    go text (suc n) a = (text, suc n, unfinished (λ z. omega (arith, z)) a)
    go text zero a =
        let (events, r) = journal-of_run law reaches (Some files) bytes entry state_name text steps waits 0 refl a in
        (text ++ schedule_text events, 0, journaled text events a r refl refl)
