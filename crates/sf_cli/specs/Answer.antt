-- Answer: the text and the status that the command gives to its words, over a map of files.
-- The form of a command's answer is that of The Open Group, "Utility Conventions" (2018); the
-- statuses are this project's own.
use Rattle.std.specs.Prelude.{◌≡◌, ◌≢◌, ℕ, ◌<◌, ◌≤◌, ◌⊎◌, Bool, Option, Some, None, List, [], ◌++◌, Contains, codes}
use Rattle.sf_base.specs.declared.value.Value.TheVariants.{Nil as nil}
use Rattle.sf_core.specs.Machine.Config.{Config}
use Rattle.sf_core.specs.Machine.Enabled.{HasEnded}
use Rattle.sf_core.specs.Machine.Numbered.{Numbered}
use Rattle.sf_core.specs.Machine.Reach.{Reach}
use Rattle.sf_core.specs.Machine.Step.{Event, procedure_at}
use Rattle.sf_core.specs.Program.Syntax.{Procedure, Program}
use Rattle.sf_foot.specs.declared.vars.Vars.{Vars}
use Rattle.sf_heap.specs.Cells.{Cells}
use Rattle.sf_io.specs.Increased.{Increased}
use Rattle.sf_io.specs.Shelf.{Files}
use Rattle.sf_io.specs.Sink.{WrotePrefix}
use Rattle.sf_machine.specs.Beginning.{Begins}
use Rattle.sf_rules.specs.Setting.{IsSettingOf, Setting}
use Rattle.sf_state.specs.Entering.{IsEntry, IsEntryFault}
use Rattle.sf_state.specs.Starts.{IsStartText}
use Rattle.sf_state.specs.declared.fault.StartFault.{StartFault}
use Rattle.sf_cli.specs.FileFault.{FileFault, Admits}
use Rattle.sf_cli.specs.Refusals.{refusal_text}
use Rattle.sf_report.specs.Failure.{failure_text, too_large_text}
use Rattle.sf_search.specs.Judge.{Cause, stuck_at, too_large, Verdict, proof, fails, Judge}
use Rattle.sf_base.specs.declared.ids.ProcId.{ProcId}
use Rattle.sf_proof.specs.ProofText.{proof_text}
use Rattle.sf_core.specs.Machine.Sound.{IsSound}
use Rattle.sf_sym.specs.declared.tag.Tag.{Tag}
use Rattle.sf_cli.specs.declared.refusal.Refusal.{Refusal}
use Rattle.sf_cli.specs.SoundFile.{MayHave}
use Rattle.sf_cli.specs.DemoText.{demo_text}
use Rattle.sf_gen.specs.Made.{made_text}
use Rattle.sf_cli.specs.Journaled.{StateJournal, WithJournal, schedule_text}
use Rattle.sf_cli.specs.Ran.{IsFinishedText, StateAnswer}
use Rattle.sf_cli.specs.Ranked.{RankingAnswer}
use Rattle.sf_cli.specs.Rechecked.{ProofAnswer}
use Rattle.sf_cli.specs.Replayed.{ComesByBytes, ReplayAnswer}
use Rattle.sf_words.specs.Words.{Text, Order, demo, journal, order_of, ranking, recheck, replay, run, verify, witness}
use Rattle.sf_cli.specs.StartRefusals.{start_refusal_text}
use Rattle.sf_cli.specs.Usage.{usage_text}
use Rattle.sf_witness.specs.WitnessText.{WitnessText}

-- why a procedure fails, printed: the goal at which its search is stuck, or that its proof would be
-- too large
abbrev pub cause_text : Program → ProcId → Cause → Text
cause_text p f (stuck_at goal kind before) = failure_text p f goal kind
cause_text p f too_large = too_large_text p f

-- the verdict on a program, printed
abbrev pub VerdictAnswer : Program → Verdict → Text → (status : ℕ) → Type 0
VerdictAnswer p (proof tags) text status = (text ≡ proof_text p tags) × (status ≡ 0)
VerdictAnswer p (fails f why) text status = (text ≡ cause_text p f why) × (status ≡ 1)

-- the answer to a program with which nothing is wrong: the verdict on it, by the least sets of its
-- calls and with its annotations in order
pub record ProgramAnswer (p : Program) (text : Text) (status : ℕ) : Type 0 where
  pub setting : Setting
  pub own : IsSettingOf p setting
  pub verdict : Verdict
  pub judged : Judge setting verdict
  pub said : VerdictAnswer p verdict text status

-- the answer to a file's bytes: it is refused, or it is the answer to the program that it reads as
pub data FileAnswer (bytes text : Text) (status : ℕ) : Type 0 where
  refused : (r : Refusal) → FileFault bytes r → text ≡ refusal_text r → status ≡ 3
      → FileAnswer bytes text status
  admitted : (p : Program) → Admits bytes p → ProgramAnswer p text status → FileAnswer bytes text status

-- the answer to the text of a proof that has this name, for a program with which nothing is wrong
abbrev pub ProofFileAnswer : Option Files → Program → (proof_name : Text) → Text → (status : ℕ) → Type 0
ProofFileAnswer told p proof_name text status = (given : Text) × MayHave told proof_name given × ProofAnswer p given text status

-- the same for a program's file of these bytes: the file is refused, or it is the answer to that
-- text
pub data RecheckAnswer (told : Option Files) (bytes proof_name text : Text) (status : ℕ) : Type 0 where
  file_refused : (r : Refusal) → FileFault bytes r → text ≡ refusal_text r → status ≡ 3
      → RecheckAnswer told bytes proof_name text status
  rechecked : (p : Program) → Admits bytes p → ProofFileAnswer told p proof_name text status
      → RecheckAnswer told bytes proof_name text status

-- the verdict on the program is a proof
pub record IsProved (p : Program) : Type 0 where
  pub setting : Setting
  pub own : IsSettingOf p setting
  pub tags : List Tag
  pub judged : Judge setting (proof tags)

-- a procedure of that name is run: the program is proved, and the procedure holds no resource and
-- doesn't set them up
pub record IsRun (p : Program) (entry : Text) (f : ProcId) : Type 0 where
  pub proved : IsProved p
  pub is_entry : IsEntry p entry f

-- some procedure is
abbrev pub HasRun : Program → (entry : Text) → Type 0
HasRun p entry = (f : ProcId) × IsRun p entry f

-- the answer to a run from the text of a state that has this name, for a program with which nothing
-- is wrong: the answer to the program where its verdict is no proof; else, that there is no such
-- entry; else the answer to that text
pub data RunFileAnswer (told : Option Files) (p : Program) (entry state_name : Text) (steps waits : ℕ) (text : Text)
    (status : ℕ) : Type 0 where
  unproved : ProgramAnswer p text status → status ≡ 1 → RunFileAnswer told p entry state_name steps waits text status
  no_entry : (e : StartFault) → IsProved p → IsEntryFault p entry e → text ≡ start_refusal_text e → status ≡ 5
      → RunFileAnswer told p entry state_name steps waits text status
  entered : (f : ProcId) (given : Text) → IsRun p entry f → MayHave told state_name given
      → StateAnswer p f given steps waits text status → RunFileAnswer told p entry state_name steps waits text status

-- the same for a program's file of these bytes: the file is refused, or it is the answer to that
-- run
pub data RunAnswer (told : Option Files) (bytes entry state_name : Text) (steps waits : ℕ) (text : Text) (status : ℕ)
    : Type 0 where
  refused_run : (r : Refusal) → FileFault bytes r → text ≡ refusal_text r → status ≡ 3
      → RunAnswer told bytes entry state_name steps waits text status
  admitted_run : (p : Program) → Admits bytes p → RunFileAnswer told p entry state_name steps waits text status
      → RunAnswer told bytes entry state_name steps waits text status

-- the journal of a run from the text of a state that has this name, for a program with which nothing is wrong: a procedure
-- of that name is run, and this is the journal from that text
pub record RunFileJournal (told : Option Files) (p : Program) (entry state_name : Text) (steps : ℕ) (shown : Text)
    (events : List Event) : Type 0 where
  pub f : ProcId
  pub given : Text
  pub is_run : IsRun p entry f
  pub has : MayHave told state_name given
  pub journal : StateJournal p f given steps shown events

-- the same for a program's file of these bytes
pub record RunJournal (told : Option Files) (bytes entry state_name : Text) (steps : ℕ) (shown : Text)
    (events : List Event) : Type 0 where
  pub program : Program
  pub admits : Admits bytes program
  pub journal : RunFileJournal told program entry state_name steps shown events

-- the answer to a run of a file of these bytes whose events are told
abbrev pub JournalAnswer : Option Files → (bytes entry state_name : Text) → (steps waits : ℕ) → Text → (status : ℕ)
    → Type 0
JournalAnswer told bytes entry state_name steps waits text status =
    WithJournal (RunAnswer told bytes entry state_name steps waits) (RunJournal told bytes entry state_name steps) text
    status

-- the answer to `demo`: where the file that is made has a proof, how large both are, and else what is
-- answered to that file
pub data DemoAnswer (procedures : ℕ) (text : Text) (status : ℕ) : Type 0 where
  demonstrated : (p : Program) → Admits (made_text procedures) p → (proved : IsProved p)
      → text ≡ demo_text procedures proved.tags → status ≡ 0 → DemoAnswer procedures text status
  unproved_demo : FileAnswer (made_text procedures) text status → status ≢ 0
      → DemoAnswer procedures text status

-- the answer to a file's bytes whose resources are ranked: the file is refused, or it is the answer to the program that
-- it reads as
pub data RankingFileAnswer (bytes text : Text) (status : ℕ) : Type 0 where
  refused_ranking : (r : Refusal) → FileFault bytes r → text ≡ refusal_text r → status ≡ 3
      → RankingFileAnswer bytes text status
  admitted_ranking : (p : Program) → Admits bytes p → RankingAnswer p text status → RankingFileAnswer bytes text status

-- what is said of a verdict where a witness is asked for: that the program is proved; the witness of
-- the goal at which the first search is stuck; or that a proof would be too large
abbrev pub WitnessVerdict : Program → Verdict → Text → (status : ℕ) → Type 0
WitnessVerdict p (proof tags) text status = (text ≡ codes "accepted\n") × (status ≡ 0)
WitnessVerdict p (fails f (stuck_at goal kind before)) text status =
    WitnessText p f goal kind text × (status ≡ 1)
WitnessVerdict p (fails f too_large) text status = (text ≡ too_large_text p f) × (status ≡ 1)

-- the answer to a program with which nothing is wrong, by the verdict on it
pub record WitnessAnswer (p : Program) (text : Text) (status : ℕ) : Type 0 where
  pub setting : Setting
  pub own : IsSettingOf p setting
  pub verdict : Verdict
  pub judged : Judge setting verdict
  pub said : WitnessVerdict p verdict text status

-- the answer to a file's bytes of which a witness is asked for: the file is refused, or it is the answer to the program
-- that it reads as
pub data WitnessFileAnswer (bytes text : Text) (status : ℕ) : Type 0 where
  refused_witness : (r : Refusal) → FileFault bytes r → text ≡ refusal_text r → status ≡ 3
      → WitnessFileAnswer bytes text status
  admitted_witness : (p : Program) → Admits bytes p → WitnessAnswer p text status
      → WitnessFileAnswer bytes text status

-- the words are answered with the usage
abbrev pub IsUsage : Text → (status : ℕ) → Type 0
IsUsage text status = (text ≡ usage_text) × (status ≡ 2)

-- the answer to an order, or to words that are none, where the files that it names are there
abbrev pub OrderAnswer : Option Files → Option Order → Text → (status : ℕ) → Type 0
OrderAnswer told None text status = IsUsage text status
OrderAnswer told (Some (verify file workers)) text status =
    (bytes : Text) × MayHave told file bytes × FileAnswer bytes text status
OrderAnswer told (Some (recheck file proof_name)) text status =
    (bytes : Text) × MayHave told file bytes × RecheckAnswer told bytes proof_name text status
OrderAnswer told (Some (run file entry state steps waits)) text status =
    (bytes : Text) × MayHave told file bytes × RunAnswer told bytes entry state steps waits text status
OrderAnswer told (Some (demo procedures)) text status = DemoAnswer procedures text status
OrderAnswer told (Some (ranking file)) text status =
    (bytes : Text) × MayHave told file bytes × RankingFileAnswer bytes text status
OrderAnswer told (Some (replay file entry state schedule)) text status =
    (bytes : Text) × MayHave told file bytes × ReplayAnswer told bytes entry state schedule text status
OrderAnswer told (Some (witness file)) text status =
    (bytes : Text) × MayHave told file bytes × WitnessFileAnswer bytes text status
OrderAnswer told (Some (journal file entry state steps waits)) text status =
    (bytes : Text) × MayHave told file bytes × JournalAnswer told bytes entry state steps waits text status

-- the answer over the files of a shelf
abbrev pub Answers : Option Files → (words : List Text) → Text → (status : ℕ) → Type 0
Answers told words text status = OrderAnswer told (order_of words) text status

-- Answer: that text and that status are the answer to those words over those files
abbrev pub Answer : Files → (words : List Text) → Text → (status : ℕ) → Type 0
Answer files words text status = Answers (Some files) words text status

-- the order names that file
abbrev pub Names : Option Order → Text → Type 0
Names (Some (verify file workers)) name = name ≡ file
Names (Some (recheck file proof_name)) name = (name ≡ file) ⊎ (name ≡ proof_name)
Names (Some (run file entry state steps waits)) name = (name ≡ file) ⊎ (name ≡ state)
Names (Some (ranking file)) name = name ≡ file
Names (Some (witness file)) name = name ≡ file
Names (Some (replay file entry state schedule)) name = (name ≡ file) ⊎ ((name ≡ state) ⊎ (name ≡ schedule))
Names (Some (journal file entry state steps waits)) name = (name ≡ file) ⊎ (name ≡ state)
Names _ name = ⊥

-- these bytes are those of a program with which nothing is wrong
abbrev pub AreAdmitted : (bytes : Text) → Type 0
AreAdmitted bytes = (p : Program) × Admits bytes p

-- the file of that name may be that of a program with which nothing is wrong
abbrev pub MayBeAdmitted : Option Files → (name : Text) → Type 0
MayBeAdmitted told name = (bytes : Text) × MayHave told name bytes × AreAdmitted bytes

-- these bytes are those of a program with which nothing is wrong, and a procedure of that name is
-- run
abbrev pub AreRun : (bytes entry : Text) → Type 0
AreRun bytes entry = (p : Program) × Admits bytes p × HasRun p entry

-- the file of that name may be that of a program of which that procedure is run
abbrev pub MayBeRun : Option Files → (name entry : Text) → Type 0
MayBeRun told name entry = (bytes : Text) × MayHave told name bytes × AreRun bytes entry

-- the work comes to that file: it is the program's; or a proof's of a program with which nothing is
-- wrong; or a state's, from which a procedure of such a program is run; or a state's or a schedule's of a replay, where
-- nothing before it is refused
abbrev pub Reaches : Option Files → Option Order → Text → Type 0
Reaches told (Some (verify file workers)) name = name ≡ file
Reaches told (Some (recheck file proof_name)) name = (name ≡ file) ⊎ ((name ≡ proof_name) × MayBeAdmitted told file)
Reaches told (Some (run file entry state steps waits)) name = (name ≡ file) ⊎ ((name ≡ state) × MayBeRun told file entry)
Reaches told (Some (ranking file)) name = name ≡ file
Reaches told (Some (witness file)) name = name ≡ file
Reaches told (Some (replay file entry state schedule)) name = (name ≡ file)
    ⊎ ((bytes : Text) × MayHave told file bytes × ComesByBytes told bytes entry state schedule name)
Reaches told (Some (journal file entry state steps waits)) name =
    (name ≡ file) ⊎ ((name ≡ state) × MayBeRun told file entry)
Reaches told _ name = ⊥

-- what is said of a file that can't be read
abbrev pub read_fault_text : Text → Text
read_fault_text name = codes "read fault: " ++ name ++ codes "\n"

-- the work came to a file of that name, its count of faults increased, and the text says so
pub record Unread (told : Option Files) (before after : Text → ℕ) (order : Option Order) (text : Text) : Type 0 where
  pub name : Text
  pub reached : Reaches told order name
  pub increased : Increased (before name) (after name)
  pub text_is : text ≡ read_fault_text name

-- the status is one of an answer: 0 to 6, or 10 to 12
abbrev pub IsAnswering : (status : ℕ) → Type 0
IsAnswering status = (status < 7) ⊎ ((10 ≤ status) × (status ≤ 12))

-- or it says that a file can't be read
abbrev pub IsSaid : (status : ℕ) → Type 0
IsSaid status = IsAnswering status ⊎ (status ≡ 7)

-- what the command may say: an answer with its status, or that a file can't be read
pub data Reply (told : Option Files) (before after : Text → ℕ) (order : Option Order) (text : Text) (status : ℕ)
    : Type 0 where
  answer : IsAnswering status → OrderAnswer told order text status → Reply told before after order text status
  unread : status ≡ 7 → Unread told before after order text → Reply told before after order text status

-- a prefix of something that the command may say was written
abbrev pub WroteReplyPrefix : Option Files → (before after : Text → ℕ) → Option Order → (old new : Option Text)
    → Type 0
WroteReplyPrefix told before after order old new =
    (text : Text) × (status : ℕ) × Reply told before after order text status × WrotePrefix old new text

-- nothing was written, or a prefix of something that the command may say
abbrev pub WroteNothingOrPrefix : Option Files → (before after : Text → ℕ) → Option Order
    → (old new : Option Text) → Type 0
WroteNothingOrPrefix told before after order old new =
    (new ≡ old) ⊎ WroteReplyPrefix told before after order old new

-- these bytes are those of a program that is sound
pub record AcceptedBytes (bytes : Text) : Type 0 where
  pub program : Program
  pub admits : Admits bytes program
  pub sound : IsSound program

-- the words are an order whose program's file is there, or is made, its answer is that text with that
-- status, and the program that the file reads as is sound
pub data Accepted (told : Option Files) (words : List Text) (text : Text) (status : ℕ) : Type 0 where
  by_search : (file : Text) (workers : ℕ) → order_of words ≡ Some (verify file workers) → (bytes : Text)
      → MayHave told file bytes → FileAnswer bytes text status → AcceptedBytes bytes
      → Accepted told words text status
  by_proof : (file name : Text) → order_of words ≡ Some (recheck file name) → (bytes : Text)
      → MayHave told file bytes → RecheckAnswer told bytes name text status → AcceptedBytes bytes
      → Accepted told words text status
  by_run : (file entry state : Text) (steps waits : ℕ) → order_of words ≡ Some (run file entry state steps waits)
      → (bytes : Text) → MayHave told file bytes → RunAnswer told bytes entry state steps waits text status
      → AcceptedBytes bytes → Accepted told words text status
  by_demo : (procedures : ℕ) → order_of words ≡ Some (demo procedures) → DemoAnswer procedures text status
      → AcceptedBytes (made_text procedures) → Accepted told words text status
  by_journal : (file entry state : Text) (steps waits : ℕ) → order_of words ≡ Some (journal file entry state steps waits)
      → (bytes : Text) → MayHave told file bytes → JournalAnswer told bytes entry state steps waits text status
      → AcceptedBytes bytes → Accepted told words text status

-- a run has ended with that text: it is the text of a configuration in which the entry has ended,
-- and to which some list of events leads from the start that the state's text gives, those of the
-- procedure that sets the resources up first where it is fresh, each with its task's next unit as its
-- number
pub record EndedRun (told : Option Files) (file entry state_name : Text) (steps : ℕ) (text : Text) : Type 0 where
  pub bytes : Text
  pub may_have : MayHave told file bytes
  pub program : Program
  pub admits : Admits bytes program
  pub f : ProcId
  pub procedure : Procedure
  pub there : procedure_at program f ≡ Some procedure
  pub is_entry : IsEntry program entry f
  pub given : Text
  pub has : MayHave told state_name given
  pub vars : Vars
  pub heap : Cells
  pub parts : List (List ℕ)
  pub unit : ℕ
  pub fresh : Bool
  pub starts : IsStartText program f procedure given vars heap parts unit fresh
  pub start : Config
  pub begins : Begins program f fresh vars heap start
  pub events : List Event
  pub last : Config
  pub numbered : Numbered program start unit steps events last
  pub ended : HasEnded [] last.tasks
  pub is : IsFinishedText program procedure last text

-- a run has ended, and its events were told: the text is that of its end, and then a list of events, which leads from the
-- start to that end; each cell that one of them makes stands at the event's number, with all fields nil
pub record EndedJournal (told : Option Files) (file entry state_name : Text) (steps : ℕ) (text : Text) : Type 0 where
  pub shown : Text
  pub run : EndedRun told file entry state_name steps shown
  pub events : List Event
  pub reached : Reach run.program run.start events run.last
  pub empty : (event : Event) → Contains events event
      → (event.at ≡ event.number) × ((field : ℕ) → event.fields field ≡ nil)
  pub is : text ≡ shown ++ schedule_text events

-- what is said of an order with status 0: a run has ended with it
abbrev pub Ended : Option Files → Option Order → Text → Type 0
Ended told (Some (run file entry state steps waits)) text = EndedRun told file entry state steps text
Ended told (Some (journal file entry state steps waits)) text = EndedJournal told file entry state steps text
Ended told _ text = Unit {0}
