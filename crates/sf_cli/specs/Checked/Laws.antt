-- Laws of answers, stated.
-- A definition by cases owes its reader that one case holds and no two do; an answer of status 0
-- promises that the program is sound.
use Rattle.std.specs.Prelude.{◌≡◌, ◌≢◌, ◌⊎◌, ℕ, Bool, List, Option, Some}
use Rattle.sf_base.specs.declared.ids.ProcId.{ProcId}
use Rattle.sf_core.specs.Machine.Step.{procedure_at}
use Rattle.sf_core.specs.Program.Syntax.{Procedure, Program}
use Rattle.sf_foot.specs.declared.vars.Vars.{Vars}
use Rattle.sf_heap.specs.Cells.{Cells}
use Rattle.sf_io.specs.Shelf.{Files}
use Rattle.sf_rules.specs.Proving.{Proves}
use Rattle.sf_rules.specs.Setting.{IsSettingOf, Setting}
use Rattle.sf_run.specs.Sequential.{IsSequentialStart}
use Rattle.sf_state.specs.Entering.{IsEntry}
use Rattle.sf_state.specs.Starts.{IsStartText}
use Rattle.sf_sym.specs.declared.tag.Tag.{Tag}
use Rattle.sf_cli.specs.Answer.{AcceptedBytes, Answer, DemoAnswer, EndedJournal, EndedRun, FileAnswer, JournalAnswer, Names, OrderAnswer, RunAnswer, RankingFileAnswer, WitnessFileAnswer}
use Rattle.sf_cli.specs.Replayed.{EnteredAnswer, ReplayAnswer}
use Rattle.sf_cli.specs.SoundFile.{IsAccepting}
use Rattle.sf_cli.specs.FileFault.{Admits, FileFault}
use Rattle.sf_cli.specs.declared.refusal.Refusal.{Refusal}
use Rattle.sf_cli.specs.Rechecked.{ProofAnswer}
use Rattle.sf_cli.specs.Reads.{Reads}
use Rattle.sf_words.specs.Words.{Text, Order, journal, order_of, run}

-- bytes read as at most one program
abbrev pub EachFileIsOneProgram : Type 0
EachFileIsOneProgram = (bytes : Text) (p q : Program) → Reads bytes p → Reads bytes q → p ≡ q

-- a file is one program with which nothing is wrong, or is refused for one cause, and not both
pub record IsDecided (bytes : Text) : Type 0 where
  pub programs : (p q : Program) → Admits bytes p → Admits bytes q → p ≡ q
  pub causes : (r s : Refusal) → FileFault bytes r → FileFault bytes s → r ≡ s
  pub apart : (p : Program) (r : Refusal) → Admits bytes p → FileFault bytes r → ⊥

abbrev pub EachFileIsDecided : Type 0
EachFileIsDecided = (bytes : Text) → IsDecided bytes

-- a file has at most one answer
abbrev pub EachFileHasOneAnswer : Type 0
EachFileHasOneAnswer =
    (bytes text other : Text) (status code : ℕ) → FileAnswer bytes text status → FileAnswer bytes other code
    → (text ≡ other) × (status ≡ code)

-- a file has an answer
abbrev pub EachFileHasAnAnswer : Type 0
EachFileHasAnAnswer = (bytes : Text) → (text : Text) × (status : ℕ) × FileAnswer bytes text status

-- the text of a proof has at most one answer
abbrev pub EachProofHasOneAnswer : Type 0
EachProofHasOneAnswer =
    (p : Program) (proof text other : Text) (status code : ℕ) → ProofAnswer p proof text status
    → ProofAnswer p proof other code → (text ≡ other) × (status ≡ code)

-- the text of a proof has an answer, for a file's program with which nothing is wrong
abbrev pub EachProofHasAnAnswer : Type 0
EachProofHasAnAnswer =
    (bytes : Text) (p : Program) → Admits bytes p → (proof : Text)
    → (text : Text) × (status : ℕ) × ProofAnswer p proof text status

-- where a file of these bytes has a program, that name is an entry's and that text a start of it, no parallel call can be
-- reached from there
abbrev pub RunsAlone : (bytes entry given : Text) → Type 0
RunsAlone bytes entry given =
    (p : Program) (f : ProcId) (g : Procedure) (vars : Vars) (heap : Cells) (parts : List (List ℕ)) (unit : ℕ)
    (fresh : Bool) → Admits bytes p → IsEntry p entry f → procedure_at p f ≡ Some g
    → IsStartText p f g given vars heap parts unit fresh → IsSequentialStart p f fresh

-- the status is one of what comes of a run's tasks
abbrev pub IsOfTasks : (status : ℕ) → Type 0
IsOfTasks status = (status ≡ 0) ⊎ (status ≡ 6)

-- a run of a file's program has at most one answer over the same files, where one is not of its tasks, or no parallel
-- call can be reached
abbrev pub EachRunHasOneAnswer : Type 0
EachRunHasOneAnswer =
    (files : Files) (bytes entry state_name text other : Text) (steps waits status code : ℕ)
    → (IsOfTasks status → (given : Text) → files state_name ≡ Some given → RunsAlone bytes entry given)
    → RunAnswer (Some files) bytes entry state_name steps waits text status
    → RunAnswer (Some files) bytes entry state_name steps waits other code → (text ≡ other) × (status ≡ code)

-- it has an answer, where the state's file is there and no parallel call can be reached
abbrev pub EachRunHasAnAnswer : Type 0
EachRunHasAnAnswer =
    (files : Files) (bytes entry state_name given : Text) (steps waits : ℕ) → files state_name ≡ Some given
    → RunsAlone bytes entry given → (text : Text) × (status : ℕ) × RunAnswer (Some files) bytes entry state_name steps waits text status

-- a run whose events are told has at most one answer over the same files, where one is not of its tasks, or no parallel
-- call can be reached
abbrev pub EachJournalHasOneAnswer : Type 0
EachJournalHasOneAnswer =
    (files : Files) (bytes entry state_name text other : Text) (steps waits status code : ℕ)
    → (IsOfTasks status → (given : Text) → files state_name ≡ Some given → RunsAlone bytes entry given)
    → JournalAnswer (Some files) bytes entry state_name steps waits text status
    → JournalAnswer (Some files) bytes entry state_name steps waits other code → (text ≡ other) × (status ≡ code)

-- it has an answer, where the state's file is there and no parallel call can be reached
abbrev pub EachJournalHasAnAnswer : Type 0
EachJournalHasAnAnswer =
    (files : Files) (bytes entry state_name given : Text) (steps waits : ℕ) → files state_name ≡ Some given
    → RunsAlone bytes entry given
    → (text : Text) × (status : ℕ) × JournalAnswer (Some files) bytes entry state_name steps waits text status

-- `demo` has at most one answer
abbrev pub EachDemoHasOneAnswer : Type 0
EachDemoHasOneAnswer =
    (procedures : ℕ) (text other : Text) (status code : ℕ) → DemoAnswer procedures text status
    → DemoAnswer procedures other code → (text ≡ other) × (status ≡ code)

-- it has an answer
abbrev pub EachDemoHasAnAnswer : Type 0
EachDemoHasAnAnswer = (procedures : ℕ) → (text : Text) × (status : ℕ) × DemoAnswer procedures text status

-- a file whose resources are ranked has at most one answer
abbrev pub EachRankingHasOneAnswer : Type 0
EachRankingHasOneAnswer =
    (bytes text other : Text) (status code : ℕ) → RankingFileAnswer bytes text status
    → RankingFileAnswer bytes other code → (text ≡ other) × (status ≡ code)

-- it has an answer
abbrev pub EachRankingHasAnAnswer : Type 0
EachRankingHasAnAnswer = (bytes : Text) → (text : Text) × (status : ℕ) × RankingFileAnswer bytes text status

-- a file of which a witness is asked for has at most one answer
abbrev pub EachWitnessHasOneAnswer : Type 0
EachWitnessHasOneAnswer =
    (bytes text other : Text) (status code : ℕ) → WitnessFileAnswer bytes text status
    → WitnessFileAnswer bytes other code → (text ≡ other) × (status ≡ code)

-- it has an answer
abbrev pub EachWitnessHasAnAnswer : Type 0
EachWitnessHasAnAnswer = (bytes : Text) → (text : Text) × (status : ℕ) × WitnessFileAnswer bytes text status

-- a replay of a file's program has at most one answer over the same files
abbrev pub EachReplayHasOneAnswer : Type 0
EachReplayHasOneAnswer =
    (files : Files) (bytes entry state_name schedule_name text other : Text) (status code : ℕ)
    → ReplayAnswer (Some files) bytes entry state_name schedule_name text status
    → ReplayAnswer (Some files) bytes entry state_name schedule_name other code → (text ≡ other) × (status ≡ code)

-- it has an answer, where the files of the state and of the schedule are there
abbrev pub EachReplayHasAnAnswer : Type 0
EachReplayHasAnAnswer =
    (files : Files) (bytes entry state_name schedule_name given events : Text) → files state_name ≡ Some given
    → files schedule_name ≡ Some events
    → (text : Text) × (status : ℕ) × ReplayAnswer (Some files) bytes entry state_name schedule_name text status

-- of a file's program with which nothing is wrong, so that the conditions on variables hold of it, and that some tags
-- prove, neither an absent cell nor a race is found, from whichever state and by whichever schedule
abbrev pub ProvedProgramsAreReplayedSafely : Type 0
ProvedProgramsAreReplayedSafely =
    (bytes : Text) (p : Program) → Admits bytes p → (d : Setting) → IsSettingOf p d → (tags : List Tag) → Proves d tags
    → (told : Option Files) (entry state_name schedule_name text : Text) (status : ℕ)
    → EnteredAnswer told p entry state_name schedule_name text status → status ≢ 10

-- nor of a file that is accepted
abbrev pub AcceptedFilesAreReplayedSafely : Type 0
AcceptedFilesAreReplayedSafely =
    (told : Option Files) (bytes shown entry state_name schedule_name text : Text) (status : ℕ)
    → FileAnswer bytes shown 0 → ReplayAnswer told bytes entry state_name schedule_name text status → status ≢ 10

-- if the order is a run, or one whose events are told, no parallel call can be reached in it
abbrev pub IsAlone : Files → Option Order → Type 0
IsAlone files (Some (run file entry state steps waits)) =
    (bytes given : Text) → files file ≡ Some bytes → files state ≡ Some given → RunsAlone bytes entry given
IsAlone files (Some (journal file entry state steps waits)) =
    (bytes given : Text) → files file ≡ Some bytes → files state ≡ Some given → RunsAlone bytes entry given
IsAlone files _ = Unit {0}

-- words have at most one answer over the same files, but for what comes of runs in which a parallel call can be reached
abbrev pub EachCommandHasOneAnswer : Type 0
EachCommandHasOneAnswer =
    (files : Files) (words : List Text) (text other : Text) (status code : ℕ)
    → (IsOfTasks status → IsAlone files (order_of words))
    → Answer files words text status → Answer files words other code → (text ≡ other) × (status ≡ code)

-- words have an answer over files, where the files that they name are there, but for such runs
abbrev pub EachCommandHasAnAnswer : Type 0
EachCommandHasAnAnswer =
    (files : Files) (words : List Text) → IsAlone files (order_of words)
    → ((name : Text) → Names (order_of words) name → (bytes : Text) × (files name ≡ Some bytes))
    → (text : Text) × (status : ℕ) × Answer files words text status

-- bytes whose answer has status 0, whichever they are, read as a program that is sound
abbrev pub AcceptedFilesAreSound : Type 0
AcceptedFilesAreSound = (bytes text : Text) → FileAnswer bytes text 0 → AcceptedBytes bytes

-- a file for which the text of a proof is answered with status 0, whatever bytes that text is, is
-- that of a program which is sound
abbrev pub AcceptedProofsAreSound : Type 0
AcceptedProofsAreSound =
    (bytes : Text) (p : Program) → Admits bytes p → (proof text : Text) → ProofAnswer p proof text 0
    → AcceptedBytes bytes

-- a file of which a run is answered with a status that only comes where the program is proved,
-- whatever bytes the file has, is that of a program which is sound
abbrev pub AcceptedRunsAreSound : Type 0
AcceptedRunsAreSound =
    (told : Option Files) (bytes entry state_name text : Text) (steps waits status : ℕ) → IsAccepting status
    → RunAnswer told bytes entry state_name steps waits text status → AcceptedBytes bytes

-- what is answered to a run with status 0 is the text of a configuration that a numbered list of
-- events reaches from the start which was read, and in which the entry has ended
abbrev pub FinishedRunsHaveEnded : Type 0
FinishedRunsHaveEnded =
    (told : Option Files) (file entry state_name text : Text) (steps waits : ℕ)
    → OrderAnswer told (Some (run file entry state_name steps waits)) text 0
    → EndedRun told file entry state_name steps text

-- what is answered with status 0 to a run whose events are told is such a text, and then a list of events that reaches
-- that configuration from the start which was read
abbrev pub JournalsReachTheirEnds : Type 0
JournalsReachTheirEnds =
    (told : Option Files) (file entry state_name text : Text) (steps waits : ℕ)
    → OrderAnswer told (Some (journal file entry state_name steps waits)) text 0
    → EndedJournal told file entry state_name steps text
