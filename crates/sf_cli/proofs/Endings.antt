-- What a run of status 0 promises: its text is that of an end which a numbered list of events reaches.
-- Names: ended-*.
use Rattle.std.proofs.Common.{◌≡◌, ℕ, Bool, List, Option, Some, None, arith, refl, subst}
use Rattle.sf_base.specs.declared.ids.ProcId.{ProcId}
use Rattle.sf_core.specs.Machine.Config.{Config}
use Rattle.sf_core.specs.Program.Syntax.{Procedure, Program}
use Rattle.sf_foot.specs.declared.vars.Vars.{Vars}
use Rattle.sf_heap.specs.Cells.{Cells}
use Rattle.sf_io.specs.Shelf.{Files}
use Rattle.sf_machine.specs.Beginning.{Begins}
use Rattle.sf_core.specs.Machine.Step.{procedure_at}
use Rattle.sf_state.specs.Entering.{IsEntry}
use Rattle.sf_state.specs.Starts.{IsStartText}
use Rattle.sf_cli.specs.Answer.{Ended, EndedRun, OrderAnswer, Reply, RunFileAnswer, admitted_run, answer, entered, no_entry, refused_run, unproved, unread}
use Rattle.sf_cli.specs.SoundFile.{MayHave}
use Rattle.sf_cli.specs.FileFault.{Admits}
use Rattle.sf_cli.specs.Checked.Laws.{FinishedRunsHaveEnded, JournalsReachTheirEnds}
use Rattle.sf_cli.specs.Ran.{MayCome, ended, no_start, ran, spent_steps, spent_waits}
use Rattle.sf_words.specs.Words.{Order, Text, demo, journal, recheck, run, verify, ranking, replay, witness}

-- what is said of a start with status 0
ended-start : (told : Option Files) (file bytes entry state_name text : Text) (steps waits status : ℕ)
    → MayHave told file bytes → (p : Program) → Admits bytes p → (f : ProcId) → IsEntry p entry f → (given : Text)
    → MayHave told state_name given → (g : Procedure) → procedure_at p f ≡ Some g → (vars : Vars) (heap : Cells)
    (parts : List (List ℕ)) (unit : ℕ) (fresh : Bool) → IsStartText p f g given vars heap parts unit fresh
    → (start : Config) → Begins p f fresh vars heap start → status ≡ 0
    → MayCome p g start unit steps waits text status → EndedRun told file entry state_name steps text
ended-start told file bytes entry state_name text steps waits status may p a f i given has g there vars heap parts unit
    fresh starts start begins z (ended events last numbered h is s) =
    record {
      bytes = bytes;
      may_have = may;
      program = p;
      admits = a;
      f = f;
      procedure = g;
      there = there;
      is_entry = i;
      given = given;
      has = has;
      vars = vars;
      heap = heap;
      parts = parts;
      unit = unit;
      fresh = fresh;
      starts = starts;
      start = start;
      begins = begins;
      events = events;
      last = last;
      numbered = numbered;
      ended = h;
      is = is;
    }
ended-start told file bytes entry state_name text steps waits status may p a f i given has g there vars heap parts unit
    fresh starts start begins z (spent_steps path used h t six) =
    absurd (omega (arith, z, six))
ended-start told file bytes entry state_name text steps waits status may p a f i given has g there vars heap parts unit
    fresh starts start begins z (spent_waits path r h t six) =
    absurd (omega (arith, z, six))

-- what is said of a run of a program with status 0
ended-file : (told : Option Files) (file bytes entry state_name text : Text) (steps waits status : ℕ)
    → MayHave told file bytes → (p : Program) → Admits bytes p → status ≡ 0
    → RunFileAnswer told p entry state_name steps waits text status → EndedRun told file entry state_name steps text
ended-file told file bytes entry state_name text steps waits status may p a z (unproved k s) =
    absurd (omega (arith, z, s))
ended-file told file bytes entry state_name text steps waits status may p a z (no_entry e i x t s) =
    absurd (omega (arith, z, s))
ended-file told file bytes entry state_name text steps waits status may p a z
    (entered f given i has (no_start g e there x t s)) =
    absurd (omega (arith, z, s))
ended-file told file bytes entry state_name text steps waits status may p a z
    (entered f given i has (ran g vars heap parts unit fresh there starts k)) =
    ended-start told file bytes entry state_name text steps waits status may p a f i.is_entry given has g there vars heap
    parts unit fresh starts k.start k.begins z k.may

pub ended-run : FinishedRunsHaveEnded
ended-run told file entry state_name text steps waits (bytes, may, refused_run r f t s) = absurd (omega (arith, s))
ended-run told file entry state_name text steps waits (bytes, may, admitted_run p a k) =
    ended-file told file bytes entry state_name text steps waits 0 may p a refl k

-- what is said with status 0 promises it, where it is said of a run, with its events or without
pub ended-reply : FinishedRunsHaveEnded → JournalsReachTheirEnds → (told : Option Files) (before after : Text → ℕ) (order : Option Order)
    (text : Text) (status : ℕ) → status ≡ 0 → Reply told before after order text status → Ended told order text
ended-reply law journals told before after order text status z (unread s u) = absurd (omega (arith, z, s))
ended-reply law journals told before after order text status z (answer l a) = go order a
  where
    go : (o : Option Order) → OrderAnswer told o text status → Ended told o text
    go None x = tt
    go (Some (verify file workers)) x = tt
    go (Some (recheck file name)) x = tt
    go (Some (demo procedures)) x = tt
    go (Some (ranking file)) x = tt
    go (Some (replay file entry state schedule)) x = tt
    go (Some (witness file)) x = tt
    go (Some (run file entry state steps waits)) x =
        law told file entry state text steps waits
        (subst (λ (n : ℕ). OrderAnswer told (Some (run file entry state steps waits)) text n) z x)
    go (Some (journal file entry state steps waits)) x =
        journals told file entry state text steps waits
        (subst (λ (n : ℕ). OrderAnswer told (Some (journal file entry state steps waits)) text n) z x)
