-- What is said of a run with its events, from what is said of it alone.
-- Names: kept-*.
use Rattle.std.proofs.Common.{◌≡◌, ◌≢◌, ◌<◌, ℕ, Bool, true, false, List, Option, Some, inl, inr, refl, subst, sym}
use Rattle.sf_core.specs.Machine.Step.{Event}
use Rattle.sf_io.specs.Shelf.{Files}
use Rattle.sf_cli.specs.Answer.{MayBeRun, OrderAnswer, Reaches, RunAnswer, RunJournal}
use Rattle.sf_cli.specs.Checked.Kept.{KeptAnswer, run_order}
use Rattle.sf_cli.specs.Journaled.{WithJournal, journaled, unfinished}
use Rattle.sf_cli.specs.SoundFile.{MayHave}
use Rattle.sf_words.specs.Words.{Text}

-- what follows of an answer alone, and of its journal, follows of both
pub kept-map : (kept : Bool) (A B : Text → ℕ → Type 0) (J K : Text → List Event → Type 0)
    → ((text : Text) (status : ℕ) → A text status → B text status)
    → (kept ≡ true → (shown : Text) (events : List Event) → A shown 0 → J shown events → K shown events)
    → (text : Text) (status : ℕ) → KeptAnswer kept A J text status → KeptAnswer kept B K text status
kept-map false A B J K f g text status a = f text status a
kept-map true A B J K f g text status (unfinished n a) = unfinished n (f text status a)
kept-map true A B J K f g text status (journaled shown events a j is z) =
    journaled shown events (f shown 0 a) (g refl shown events a j) is z

-- where nothing has ended the answer alone is all
pub kept-unfinished : (kept : Bool) (A : Text → ℕ → Type 0) (J : Text → List Event → Type 0) (text : Text) (status : ℕ)
    → status ≢ 0 → A text status → KeptAnswer kept A J text status
kept-unfinished false A J text status n a = a
kept-unfinished true A J text status n a = unfinished n a

-- the answer alone has the same status
pub kept-shown : (A : Text → ℕ → Type 0) (J : Text → List Event → Type 0) (text : Text) (status : ℕ)
    → WithJournal A J text status → (shown : Text) × A shown status
kept-shown A J text status (unfinished n a) = (text, a)
kept-shown A J text status (journaled shown events a j is z) = (shown, subst (A shown) (sym z) a)

pub kept-status : (kept : Bool) (A : Text → ℕ → Type 0) (J : Text → List Event → Type 0) (text : Text) (status : ℕ)
    → ((shown : Text) → A shown status → status < 7) → KeptAnswer kept A J text status → status < 7
kept-status false A J text status l a = l text a
kept-status true A J text status l a = let s = kept-shown A J text status a in l s.0 s.1

-- the orders by which a run is asked for have that answer, and come to the same files
pub kept-order : (kept : Bool) (told : Option Files) (file bytes entry state_name text : Text) (steps waits status : ℕ)
    → MayHave told file bytes
    → KeptAnswer kept (RunAnswer told bytes entry state_name steps waits) (RunJournal told bytes entry state_name steps)
    text status → OrderAnswer told (Some (run_order kept file entry state_name steps waits)) text status
kept-order false told file bytes entry state_name text steps waits status may a = (bytes, may, a)
kept-order true told file bytes entry state_name text steps waits status may a = (bytes, may, a)

pub kept-program : (kept : Bool) (told : Option Files) (file entry state_name : Text) (steps waits : ℕ)
    → Reaches told (Some (run_order kept file entry state_name steps waits)) file
kept-program false told file entry state_name steps waits = inl refl
kept-program true told file entry state_name steps waits = inl refl

pub kept-state : (kept : Bool) (told : Option Files) (file entry state_name other : Text) (steps waits : ℕ)
    → other ≡ state_name → MayBeRun told file entry
    → Reaches told (Some (run_order kept file entry state_name steps waits)) other
kept-state false told file entry state_name other steps waits e m = inr (e, m)
kept-state true told file entry state_name other steps waits e m = inr (e, m)
