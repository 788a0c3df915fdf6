-- From what the parts of a run answer to what is said of it over the files of a shelf.
-- Names: entry-*, told-*, ran-*, fetched-*, proved-*, bytes-*, reply-*.
use Rattle.std.proofs.Common.{◌≡◌, ◌≢◌, ◌∙◌, ◌⊎◌, ◌<◌, ◌≤◌, ℕ, [], List, Bool, true, false, Option, Some, None, ap, ap₂, arith, get_or, inl, inr, length, map, nat_lt, refl, subst, sym}
use Rattle.std.proofs.lemmas.Bool.{ltb-true, ltb-false}
use Rattle.std.proofs.lemmas.Bool.Decides.{nat_tests}
use Rattle.std.proofs.lemmas.List.{length-map}
use Rattle.std.proofs.lemmas.Option.{get_or_from_slice_get, slice_get-map, slice_get_cases}
use Rattle.std.specs.declared.result.Result.{Result}
use Rattle.std.specs.declared.result.Result.TheVariants.{Ok, Err}
use Rattle.std.specs.Option.{option_map}
use Rattle.std.specs.Prelude.{IfOk, IfSome, IsTrue, if◌then◌else◌, slice_get}
use Rattle.sf_base.proofs.Options.{some-holds, some-none}
use Rattle.sf_base.specs.declared.ids.ProcId.{ProcId}
use Rattle.sf_base.specs.declared.ids.ResId.{ResId}
use Rattle.sf_base.specs.declared.limits.TheConstants.{FILE_BYTES, STATE_BYTES}
use Rattle.sf_core.specs.Machine.Alone.{Alone, Outcome, finished, spent, waiting}
use Rattle.sf_core.specs.Machine.Config.{Config, Path}
use Rattle.sf_core.specs.Machine.Step.{Event}
use Rattle.sf_core.specs.Program.Formed.{IsFormed}
use Rattle.sf_core.specs.Program.ProgramView.{program_of}
use Rattle.sf_core.specs.Program.Syntax.{Procedure, Program, Resource}
use Rattle.sf_core.specs.Program.View.{procedure_of, resource_of}
use Rattle.sf_core.specs.declared.program.Program.{Program as CodeProgram}
use Rattle.sf_core.specs.declared.program.Resource.{Resource as CodeResource}
use Rattle.sf_foot.specs.declared.start.Finish.{Finish}
use Rattle.sf_foot.specs.declared.start.Start.{Start}
use Rattle.sf_foot.specs.declared.vars.Vars.{Vars}
use Rattle.sf_heap.specs.Cells.{Cells}
use Rattle.sf_io.specs.Increased.{Increased}
use Rattle.sf_io.specs.Shelf.{Files}
use Rattle.sf_precise.specs.declared.arranged.Arranged.{Arranged}
use Rattle.sf_machine.specs.Beginning.{Begins}
use Rattle.sf_machine.specs.Ending.{Ends}
use Rattle.sf_run.specs.Checked.Laws.{BeginningsAreUnique}
use Rattle.sf_part.specs.Timed.{Stamped}
use Rattle.sf_run.specs.Running.{ComesTo, EndsWith, IsFinish, IsLog, IsStop, Stops}
use Rattle.sf_run.specs.Sequential.{IsSequentialStart}
use Rattle.sf_run.specs.declared.stop.Budget.{Budget}
use Rattle.sf_threads.specs.declared.stop.Stop.{Stop}
use Rattle.sf_threads.specs.declared.stop.Stop.TheVariants.{Steps, Waits, OutOfMemory}
use Rattle.sf_state.specs.declared.fault.StartFault.{StartFault}
use Rattle.sf_state.specs.declared.fault.StartFault.TheVariants as fault
use Rattle.sf_state.specs.Entering.{IsEntry}
use Rattle.sf_state.specs.Names.{Format, format_of}
use Rattle.sf_state.specs.Starts.{DecidesStart, IsStartFault, IsStartText, left_over, refused, unmet}
use Rattle.sf_state.specs.Stated.{lines_refusal, text_refusal}
use Rattle.sf_state.specs.Says.{entries_of}
use Rattle.sf_cli.proofs.EndTexts.{end-written}
use Rattle.sf_cli.proofs.Replies.{increased-later, long-fault, long-reads, reply-unread}
use Rattle.sf_cli.proofs.Kept.{kept-map, kept-order, kept-state, kept-status, kept-unfinished}
use Rattle.sf_cli.specs.Answer.{AreRun, IsProved, IsRun, OrderAnswer, Reaches, Reply, RunAnswer, RunFileAnswer, RunFileJournal, RunJournal, admitted_run, answer, entered, read_fault_text, refused_run}
use Rattle.sf_cli.specs.FileFault.{Admits}
use Rattle.sf_cli.specs.SoundFile.{MayHave}
use Rattle.sf_cli.specs.declared.reply.Said.{Said}
use Rattle.sf_cli.specs.Checked.Fetched.{IsUpTo, Fetched}
use Rattle.sf_cli.specs.Checked.Kept.{KeptAnswer, run_order}
use Rattle.sf_cli.specs.Checked.Printed.{AddsEvents, IsBeginText, SaysEnd, SaysFinish, stop_text}
use Rattle.sf_cli.specs.Journaled.{AreMerged, IsJournal, StateJournal, journaled}
use Rattle.sf_cli.specs.Ran.{BeginAnswer, ComesAlone, IsFinishedText, MayCome, OutcomeAnswer, StateAnswer, ended, no_start, ran, resource_name, spent_steps, spent_steps_text, spent_waits, spent_waits_text}
use Rattle.sf_words.specs.Words.{Text}

-- ---- procedures

-- a number of a procedure is that of one of the program
pub entry-there : (a : Arranged) (f : ProcId) → f.0 < length a.program.procedures.items
    → (g : Procedure) × (slice_get (program_of a.program).procedures f.0 ≡ Some g)
entry-there a f less =
    let procedures = (program_of a.program).procedures in
    let found : (slice_get procedures f.0 ≡ slice_get procedures f.0) × (((g : Procedure) × (f.0 < length procedures)
    × (slice_get procedures f.0 ≡ Some g) × (get_or procedures f.0 g ≡ g))
    ⊎ ((length procedures ≤ f.0) × (slice_get procedures f.0 ≡ None))) = slice_get_cases procedures f.0 in
    elim found.1 [
      | inl h ↦ (h.0, h.2)
      | inr h ↦
          let more = h.0 in absurd (omega (arith, less, more, length-map a.program.procedures.items procedure_of))
    ]

-- what holds of a procedure holds of the one that is there
pub entry-holds : (P Q : Procedure → Type 0) (o : Option Procedure) → ((g : Procedure) → P g → Q g) → IfSome o P → IfSome o Q
entry-holds P Q None f h = tt
entry-holds P Q (Some g) f h = f g h

-- the procedure that was found is the one that is run
pub entry-run : (a b : Arranged) (name : Text) (f : ProcId) → a ≡ b → IsProved (program_of b.program)
    → IsEntry (program_of a.program) name f → IsRun (program_of b.program) name f
entry-run a b name f same proved found = record {
  proved = proved;
  is_entry = subst (λ (z : Arranged). IsEntry (program_of z.program) name f) same found;
}

-- a reason that isn't want of memory
pub entry-refused : (P : StartFault → Type 0) (e : StartFault) → (e ≡ fault.OutOfMemory) ⊎ P e
    → e ≢ fault.OutOfMemory → P e
entry-refused P e (inl m) n = absurd (n m)
entry-refused P e (inr k) n = k

-- the name of a resource that is there
pub name-there : (p : CodeProgram) (r : ResId) (of : CodeResource) → slice_get p.resources.items r.0 ≡ Some of
    → of.name ≡ resource_name (program_of p) r
name-there p r of there =
    sym (get_or_from_slice_get (map (λ (h : Resource). h.name) (program_of p).resources) r.0 of.name []
    (slice_get-map (λ (h : Resource). h.name) (program_of p).resources r.0
    ∙ ap (option_map (λ (h : Resource). h.name)) (slice_get-map resource_of p.resources.items r.0
    ∙ ap (option_map resource_of) there)))

-- ---- ends

-- what is said of an end with its events after it, where these are to be told
pub told-end : (p : Program) (o : Option Procedure) (kept : Bool) (vars : Vars) (heap : Cells) (log : List Stamped)
    (shown text : Text) (status code : ℕ) → kept ≡ true
    → IfSome o (λ g. SaysFinish p g vars heap shown status) → AddsEvents p log shown text → code ≡ status
    → IfSome o (λ g. SaysEnd kept p g vars heap log text code)
told-end p o kept vars heap log shown text status code e said (events, merged, is) same =
    subst (λ (k : Bool). IfSome o (λ g. SaysEnd k p g vars heap log text code)) (sym e)
    (entry-holds (λ g. SaysFinish p g vars heap shown status) (λ g. SaysEnd true p g vars heap log text code) o
    (λ g s. journaled shown events (subst (SaysFinish p g vars heap shown) s.ok s) merged is (same ∙ s.ok)) said)

-- and alone, where they aren't
pub told-alone : (p : Program) (o : Option Procedure) (kept : Bool) (vars : Vars) (heap : Cells) (log : List Stamped)
    (text : Text) (status : ℕ) → kept ≡ false → IfSome o (λ g. SaysFinish p g vars heap text status)
    → IfSome o (λ g. SaysEnd kept p g vars heap log text status)
told-alone p o kept vars heap log text status e said =
    subst (λ (k : Bool). IfSome o (λ g. SaysEnd k p g vars heap log text status)) (sym e) said

-- ---- outcomes

-- what comes of one task alone comes of the one configuration in which the procedure begins
begun-alone : BeginningsAreUnique → (p : Program) (f : ProcId) (g : Procedure) (fresh : Bool) (vars : Vars)
    (heap : Cells) (unit steps waits : ℕ) (out : Outcome) (text : Text) (status : ℕ) (start : Config)
    → Begins p f fresh vars heap start → ComesTo p f fresh vars heap unit steps out
    → OutcomeAnswer p g steps waits out text status → ComesAlone p g start unit steps waits text status
unfolding BeginningsAreUnique
begun-alone law p f g fresh vars heap unit steps waits out text status start b comes said = (
  out,
  subst (λ (c : Config). Alone p c unit steps out) (law p f fresh vars heap comes.start start comes.begins b) comes.comes,
  said,
)

-- the text of the end that a run has come to
ran-printed : (p : Program) (f : ProcId) (g : Procedure) (c : Config) (end : Finish) (text : Text) (status : ℕ)
    → IsFormed p → slice_get p.procedures f.0 ≡ Some g → Ends p f c end.vars end.heap
    → SaysFinish p g end.vars end.heap text status → IsFinishedText p g c text
ran-printed p f g c end text status formed there e s = record {
  state = s.state;
  ends = end-written p f g c end.vars end.heap s.state formed there e s.ends;
  is = s.is;
}

-- what a run ends with, printed
ran-finished : BeginningsAreUnique → (p : Program) (f : ProcId) (g : Procedure) (fresh : Bool) (vars : Vars)
    (heap : Cells) (unit steps waits : ℕ) (end : Finish) (text : Text) (status : ℕ) → IsFormed p
    → slice_get p.procedures f.0 ≡ Some g → IsFinish p f fresh vars heap unit steps end
    → (IsSequentialStart p f fresh → EndsWith p f fresh vars heap unit steps end)
    → SaysFinish p g end.vars end.heap text status → BeginAnswer p f g fresh vars heap unit steps waits text status
ran-finished law p f g fresh vars heap unit steps waits end text status formed there h one s = record {
  start = h.start;
  begins = h.begins;
  may = ended h.run.events h.last h.run.numbered h.run.ended
      (ran-printed p f g h.last end text status formed there h.ends s) s.ok;
  alone = λ lone. let e = one lone in
      begun-alone law p f g fresh vars heap unit steps waits (finished e.last) text status h.start h.begins e.comes
      (ran-printed p f g e.last end text status formed there e.ends s, s.ok);
}

-- its events, which the log tells of
ran-journal : (p : Program) (f : ProcId) (g : Procedure) (fresh : Bool) (vars : Vars) (heap : Cells) (unit steps : ℕ)
    (end : Finish) (log : List Stamped) (shown : Text) (events : List Event) → IsFormed p
    → slice_get p.procedures f.0 ≡ Some g → IsLog p f fresh vars heap unit steps end log
    → SaysFinish p g end.vars end.heap shown 0 → AreMerged p log events
    → IsJournal p f g fresh vars heap unit steps shown events
ran-journal p f g fresh vars heap unit steps end log shown events formed there l s m = record {
  start = l.run.start;
  begins = l.run.begins;
  made = (l.run.run).events;
  last = l.run.last;
  numbered = (l.run.run).numbered;
  ended = (l.run.run).ended;
  is = ran-printed p f g l.run.last end shown 0 formed there l.run.ends s;
  log = log;
  logged = l.is;
  merged = m;
}

-- both, the second where a log was kept
pub ran-ended : BeginningsAreUnique → (kept : Bool) (p : Program) (f : ProcId) (fresh : Bool) (vars : Vars)
    (heap : Cells) (unit steps waits : ℕ) (end : Finish) (log : List Stamped) (text : Text) (status : ℕ) → IsFormed p
    → IsFinish p f fresh vars heap unit steps end
    → (IsSequentialStart p f fresh → EndsWith p f fresh vars heap unit steps end)
    → (IsTrue kept → IsLog p f fresh vars heap unit steps end log)
    → IfSome (slice_get p.procedures f.0) (λ g. SaysEnd kept p g end.vars end.heap log text status)
    → IsBeginText kept p f fresh vars heap unit steps waits text status
ran-ended law kept p f fresh vars heap unit steps waits end log text status formed h one logs said = λ g there.
    kept-map kept (SaysFinish p g end.vars end.heap) (BeginAnswer p f g fresh vars heap unit steps waits)
    (λ shown. AreMerged p log) (IsJournal p f g fresh vars heap unit steps)
    (λ t s a. ran-finished law p f g fresh vars heap unit steps waits end t s formed there h one a)
    (λ e shown events a m. ran-journal p f g fresh vars heap unit steps end log shown events formed there
    (logs e) a m) text status
    (some-holds (λ (h : Procedure). SaysEnd kept p h end.vars end.heap log text status) (slice_get p.procedures f.0) g
    there said)

-- why it stops, printed
ran-stopped : BeginningsAreUnique → (p : Program) (f : ProcId) (fresh : Bool) (vars : Vars) (heap : Cells)
    (unit : ℕ) (budget : Budget) (stop : Stop) (text : Text) (status : ℕ)
    → IsStop p f fresh vars heap unit budget stop
    → (IsSequentialStart p f fresh → Stops p f fresh vars heap unit budget stop) → stop ≢ OutOfMemory
    → text ≡ stop_text p stop → status ≡ 6
    → IsBeginText false p f fresh vars heap unit budget.steps budget.waits text status
ran-stopped law p f fresh vars heap unit budget (Steps path used) text status (start, begins, h) one n t s =
    λ g there. record {
      start = start;
      begins = begins;
      may = spent_steps path used h t s;
      alone = λ lone. let (entry, all, comes) = one lone in
          begun-alone law p f g fresh vars heap unit budget.steps budget.waits spent text status start begins comes
          (t ∙ ap₂ spent_steps_text entry all, s);
    }
ran-stopped law p f fresh vars heap unit budget (Waits path r misses) text status
    (start, begins, h, table, task, resource, count) one n t s =
    λ g there. record {
      start = start;
      begins = begins;
      may = spent_waits path r h (t ∙ ap (spent_waits_text p path r) count) s;
      alone = λ lone. let (entry, all, comes) = one lone in
          begun-alone law p f g fresh vars heap unit budget.steps budget.waits (waiting r) text status start begins comes
          (t ∙ ap₂ (λ (z : Path) (m : ℕ). spent_waits_text p z r m) entry all, s);
    }
ran-stopped law p f fresh vars heap unit budget OutOfMemory text status h one n t s = absurd (n refl)

pub ran-halted : BeginningsAreUnique → (kept : Bool) (p : Program) (f : ProcId) (fresh : Bool) (vars : Vars)
    (heap : Cells) (unit : ℕ) (budget : Budget) (stop : Stop) (text : Text) (status : ℕ)
    → IsStop p f fresh vars heap unit budget stop
    → (IsSequentialStart p f fresh → Stops p f fresh vars heap unit budget stop) → stop ≢ OutOfMemory
    → text ≡ stop_text p stop → status ≡ 6
    → IsBeginText kept p f fresh vars heap unit budget.steps budget.waits text status
ran-halted law kept p f fresh vars heap unit budget stop text status h one n t six = λ g there.
    kept-unfinished kept (BeginAnswer p f g fresh vars heap unit budget.steps budget.waits)
    (IsJournal p f g fresh vars heap unit budget.steps) text status (λ z. omega (arith, six, z))
    (ran-stopped law p f fresh vars heap unit budget stop text status h one n t six g there)

-- the start that a text gives
pub ran-started : (p : Program) (f : ProcId) (text : Text) (start : Start) (g : Procedure)
    → slice_get p.procedures f.0 ≡ Some g
    → IfSome (slice_get p.procedures f.0) (λ g. DecidesStart p f g text (Ok start))
    → IsStartText p f g text start.vars start.heap start.parts.items start.unit start.fresh
ran-started p f text start g there h =
    (some-holds (λ (g : Procedure). DecidesStart p f g text (Ok start)) (slice_get p.procedures f.0) g there h).started

-- why it gives none
pub ran-refused : (p : Program) (f : ProcId) (text : Text) (e : StartFault) (g : Procedure)
    → slice_get p.procedures f.0 ≡ Some g
    → IfSome (slice_get p.procedures f.0) (λ g. DecidesStart p f g text (Err e)) → e ≢ fault.OutOfMemory
    → IsStartFault p g text e
ran-refused p f text e g there h n = entry-refused (IsStartFault p g text) e
    (some-holds (λ (g : Procedure). DecidesStart p f g text (Err e)) (slice_get p.procedures f.0) g there h).refused n

-- the answer to the start of a text is the answer to the text
pub ran-answer : (kept : Bool) (p : Program) (f : ProcId) (g : Procedure) (given : Text) (start : Start)
    (steps waits : ℕ) (text : Text) (status : ℕ) → slice_get p.procedures f.0 ≡ Some g
    → IsStartText p f g given start.vars start.heap start.parts.items start.unit start.fresh
    → IsBeginText kept p f start.fresh start.vars start.heap start.unit steps waits text status
    → KeptAnswer kept (StateAnswer p f given steps waits) (StateJournal p f given steps) text status
ran-answer kept p f g given start steps waits text status there starts k =
    kept-map kept (BeginAnswer p f g start.fresh start.vars start.heap start.unit steps waits)
    (StateAnswer p f given steps waits)
    (IsJournal p f g start.fresh start.vars start.heap start.unit steps) (StateJournal p f given steps)
    (λ t s a. ran g start.vars start.heap start.parts.items start.unit start.fresh there starts a)
    (λ e shown events a j. record {
      procedure = g;
      there = there;
      vars = start.vars;
      heap = start.heap;
      parts = start.parts.items;
      unit = start.unit;
      fresh = start.fresh;
      starts = starts;
      journal = j;
    }) text status (k g there)

-- its statuses
ran-come_status : (p : Program) (g : Procedure) (start : Config) (base steps waits : ℕ) (text : Text) (status : ℕ)
    → MayCome p g start base steps waits text status → status < 7
ran-come_status p g start base steps waits text status (ended events last numbered h is z) = omega (arith, z)
ran-come_status p g start base steps waits text status (spent_steps path used h t six) = omega (arith, six)
ran-come_status p g start base steps waits text status (spent_waits path r h t six) = omega (arith, six)

ran-state_status : (p : Program) (f : ProcId) (given : Text) (steps waits : ℕ) (text : Text) (status : ℕ)
    → StateAnswer p f given steps waits text status → status < 7
ran-state_status p f given steps waits text status (no_start g e there x t s) = omega (arith, s)
ran-state_status p f given steps waits text status (ran g vars heap parts unit fresh there x a) =
    ran-come_status p g a.start unit steps waits text status a.may

pub ran-status : (kept : Bool) (p : Program) (f : ProcId) (given : Text) (steps waits : ℕ) (text : Text) (status : ℕ)
    → KeptAnswer kept (StateAnswer p f given steps waits) (StateJournal p f given steps) text status → status < 7
ran-status kept p f given steps waits text status a =
    kept-status kept (StateAnswer p f given steps waits) (StateJournal p f given steps) text status
    (λ shown k. ran-state_status p f given steps waits shown status k) a

-- ---- what is fetched of a state

-- a text that is too long is refused for that
pub fetched-long : (m : Format) (text : Text) → STATE_BYTES < length text → text_refusal m text ≡ Some fault.TooLong
fetched-long m text more =
    let long : nat_lt STATE_BYTES (length text) ≡ true = grind (arith, nat_tests) in
    ap (λ (b : Bool). if b then Some fault.TooLong else lines_refusal m (entries_of m.fields m.names text)) long

pub fetched-none : (o : Option StartFault) (f : StartFault) → o ≡ Some f → o ≡ None → ⊥
fetched-none o f e n = some-none f (sym e ∙ n)

-- the answer to the first bytes of it is that to it
fetched-state : (p : Program) (f : ProcId) (out given : Text) (steps waits : ℕ) (text : Text) (status : ℕ)
    → IsUpTo STATE_BYTES given out → StateAnswer p f out steps waits text status
    → StateAnswer p f given steps waits text status
fetched-state p f out given steps waits text status (inl e) a =
    subst (λ (z : Text). StateAnswer p f z steps waits text status) e a
fetched-state p f out given steps waits text status (inr m) (no_start g e there (refused r) t s) =
    no_start g e there (refused (fetched-long (format_of p g) given m.1
    ∙ sym (fetched-long (format_of p g) out m.0) ∙ r)) t s
fetched-state p f out given steps waits text status (inr m) (no_start g e there (unmet number is n) t s) =
    absurd (fetched-none (text_refusal (format_of p g) out) fault.TooLong
    (fetched-long (format_of p g) out m.0) n.state.accepted)
fetched-state p f out given steps waits text status (inr m) (no_start g e there (left_over location is n) t s) =
    absurd (fetched-none (text_refusal (format_of p g) out) fault.TooLong
    (fetched-long (format_of p g) out m.0) n.state.accepted)
fetched-state p f out given steps waits text status (inr m) (ran g vars heap parts unit fresh there x a) =
    absurd (fetched-none (text_refusal (format_of p g) out) fault.TooLong
    (fetched-long (format_of p g) out m.0) x.state.accepted)

-- so is its journal
fetched-journal : (p : Program) (f : ProcId) (out given : Text) (steps : ℕ) (shown : Text) (events : List Event)
    → IsUpTo STATE_BYTES given out → StateJournal p f out steps shown events → StateJournal p f given steps shown events
fetched-journal p f out given steps shown events (inl e) j =
    subst (λ (z : Text). StateJournal p f z steps shown events) e j
fetched-journal p f out given steps shown events (inr m) j =
    absurd (fetched-none (text_refusal (format_of p j.procedure) out) fault.TooLong
    (fetched-long (format_of p j.procedure) out m.0) j.starts.state.accepted)

pub fetched-state_file : (kept : Bool) (told : Option Files) (p : Program) (f : ProcId) (name out : Text)
    (steps waits : ℕ) (text : Text) (status : ℕ) → Fetched STATE_BYTES told name out
    → KeptAnswer kept (StateAnswer p f out steps waits) (StateJournal p f out steps) text status
    → (given : Text) × MayHave told name given
    × KeptAnswer kept (StateAnswer p f given steps waits) (StateJournal p f given steps) text status
fetched-state_file kept told p f name out steps waits text status h a = (
  h.bytes,
  h.may_have,
  kept-map kept (StateAnswer p f out steps waits) (StateAnswer p f h.bytes steps waits) (StateJournal p f out steps)
      (StateJournal p f h.bytes steps) (λ t s k. fetched-state p f out h.bytes steps waits t s h.is k)
      (λ e shown events k j. fetched-journal p f out h.bytes steps shown events h.is j) text status a,
)

-- ---- programs

-- the answer to a state that was read is the one to the program
pub proved-entered : (kept : Bool) (told : Option Files) (p : Program) (entry state_name given text : Text)
    (steps waits status : ℕ) (f : ProcId) → IsRun p entry f → MayHave told state_name given
    → KeptAnswer kept (StateAnswer p f given steps waits) (StateJournal p f given steps) text status
    → KeptAnswer kept (RunFileAnswer told p entry state_name steps waits) (RunFileJournal told p entry state_name steps)
    text status
proved-entered kept told p entry state_name given text steps waits status f run has a =
    kept-map kept (StateAnswer p f given steps waits) (RunFileAnswer told p entry state_name steps waits)
    (StateJournal p f given steps) (RunFileJournal told p entry state_name steps)
    (λ t s k. entered f given run has k)
    (λ e shown events k j. record { f = f; given = given; is_run = run; has = has; journal = j }) text status a

-- the answer to the program is the one to its bytes
pub bytes-admitted : (kept : Bool) (told : Option Files) (bytes entry state_name text : Text) (steps waits status : ℕ)
    (p : Program) → Admits bytes p
    → KeptAnswer kept (RunFileAnswer told p entry state_name steps waits) (RunFileJournal told p entry state_name steps)
    text status
    → KeptAnswer kept (RunAnswer told bytes entry state_name steps waits) (RunJournal told bytes entry state_name steps)
    text status
bytes-admitted kept told bytes entry state_name text steps waits status p admits a =
    kept-map kept (RunFileAnswer told p entry state_name steps waits) (RunAnswer told bytes entry state_name steps waits)
    (RunFileJournal told p entry state_name steps) (RunJournal told bytes entry state_name steps)
    (λ t s k. admitted_run p admits k)
    (λ e shown events k j. record { program = p; admits = admits; journal = j }) text status a

-- ---- replies

-- the same of what is said of a run for what was fetched of the program's file
fetched-run : (told : Option Files) (out bytes entry state_name text : Text) (steps waits status : ℕ)
    → IsUpTo FILE_BYTES bytes out → RunAnswer told out entry state_name steps waits text status
    → RunAnswer told bytes entry state_name steps waits text status
fetched-run told out bytes entry state_name text steps waits status (inl e) a =
    subst (λ (z : Text). RunAnswer told z entry state_name steps waits text status) e a
fetched-run told out bytes entry state_name text steps waits status (inr m) (refused_run r f t s) =
    refused_run r (long-fault out bytes r f m.0 m.1) t s
fetched-run told out bytes entry state_name text steps waits status (inr m) (admitted_run p a k) =
    absurd (long-reads out p a.reads m.0)

-- so it is of its journal
fetched-run_journal : (told : Option Files) (out bytes entry state_name : Text) (steps : ℕ) (shown : Text)
    (events : List Event) → IsUpTo FILE_BYTES bytes out → RunJournal told out entry state_name steps shown events
    → RunJournal told bytes entry state_name steps shown events
fetched-run_journal told out bytes entry state_name steps shown events (inl e) j =
    subst (λ (z : Text). RunJournal told z entry state_name steps shown events) e j
fetched-run_journal told out bytes entry state_name steps shown events (inr m) j =
    absurd (long-reads out j.program j.admits.reads m.0)

fetched-runs : (out bytes entry : Text) → IsUpTo FILE_BYTES bytes out → AreRun out entry → AreRun bytes entry
fetched-runs out bytes entry (inl e) a = subst (λ (z : Text). AreRun z entry) e a
fetched-runs out bytes entry (inr m) a = absurd (long-reads out a.0 a.1.reads m.0)

-- the work comes to a state's file where a procedure of what was fetched of the program's is run
pub reply-reaches : (kept : Bool) (told : Option Files) (file entry state_name out other : Text) (steps waits : ℕ)
    → Fetched FILE_BYTES told file out → (other ≡ state_name) × AreRun out entry
    → Reaches told (Some (run_order kept file entry state_name steps waits)) other
reply-reaches kept told file entry state_name out other steps waits h (e, a) =
    kept-state kept told file entry state_name other steps waits e (h.bytes, h.may_have, fetched-runs out h.bytes entry h.is a)

-- a run is answered with what is due to it
reply-due : (kept : Bool) (told : Option Files) (file entry state_name out text : Text) (steps waits status : ℕ)
    → Fetched FILE_BYTES told file out
    → KeptAnswer kept (RunAnswer told out entry state_name steps waits) (RunJournal told out entry state_name steps) text
    status → OrderAnswer told (Some (run_order kept file entry state_name steps waits)) text status
reply-due kept told file entry state_name out text steps waits status h a =
    kept-order kept told file h.bytes entry state_name text steps waits status h.may_have
    (kept-map kept (RunAnswer told out entry state_name steps waits) (RunAnswer told h.bytes entry state_name steps waits)
    (RunJournal told out entry state_name steps) (RunJournal told h.bytes entry state_name steps)
    (λ t s k. fetched-run told out h.bytes entry state_name t steps waits s h.is k)
    (λ e shown events k j. fetched-run_journal told out h.bytes entry state_name steps shown events h.is j) text status a)

-- or the state's text can't be read
reply-run : (kept : Bool) (told : Option Files) (before mid after : Text → ℕ) (file entry state_name out text : Text)
    (steps waits status : ℕ) → Fetched FILE_BYTES told file out → ((any : Text) → before any ≤ mid any) → status < 8
    → (status < 7 → KeptAnswer kept (RunAnswer told out entry state_name steps waits)
    (RunJournal told out entry state_name steps) text status)
    → (status ≡ 7 → AreRun out entry × Increased (mid state_name) (after state_name)
    × (text ≡ read_fault_text state_name))
    → Reply told before after (Some (run_order kept file entry state_name steps waits)) text status
reply-run kept told before mid after file entry state_name out text steps waits status h counts l a u =
    go (nat_lt status 7) refl
  where
    go : (b : Bool) → nat_lt status 7 ≡ b
        → Reply told before after (Some (run_order kept file entry state_name steps waits)) text status
    go true e =
        let less : status < 7 = ltb-true status 7 e in
        answer (inl less) (reply-due kept told file entry state_name out text steps waits status h (a less))
    go false e =
        let more : 7 ≤ status = ltb-false status 7 e in
        let is : status ≡ 7 = omega (arith, l, more) in
        let (runs, increased, said) = u is in
        reply-unread told before after (Some (run_order kept file entry state_name steps waits)) state_name text status
        (reply-reaches kept told file entry state_name out state_name steps waits h (refl, runs))
        (increased-later (before state_name) (mid state_name) (after state_name) (counts state_name) increased) said is

-- the same of an answer that may be that memory ran out; the shelf's files are those before
pub reply-ok : {E : Type 0} (r : Result Said E) (kept : Bool) (told now : Option Files) → now ≡ told
    → (before mid after : Text → ℕ) (file entry state_name out : Text) (steps waits : ℕ)
    → Fetched FILE_BYTES told file out → ((any : Text) → before any ≤ mid any) → IfOk r (λ said. said.status < 8)
    → IfOk r (λ said. said.status < 7 → KeptAnswer kept (RunAnswer now out entry state_name steps waits)
    (RunJournal now out entry state_name steps) said.text.items said.status)
    → IfOk r (λ said. said.status ≡ 7 → AreRun out entry × Increased (mid state_name) (after state_name)
    × (said.text.items ≡ read_fault_text state_name))
    → IfOk r (λ said. Reply told before after (Some (run_order kept file entry state_name steps waits)) said.text.items
    said.status)
reply-ok (Err e) kept told now same before mid after file entry state_name out steps waits h counts l a u = tt
reply-ok (Ok said) kept told now same before mid after file entry state_name out steps waits h counts l a u =
    reply-run kept told before mid after file entry state_name out said.text.items steps waits said.status h counts l
    (λ less. subst (λ (z : Option Files). KeptAnswer kept (RunAnswer z out entry state_name steps waits)
    (RunJournal z out entry state_name steps) said.text.items said.status) same (a less)) u
