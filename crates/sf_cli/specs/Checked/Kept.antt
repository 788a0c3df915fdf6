-- What is said to `run` and to `journal`, by whether the events of the run are told.
-- Ordinary: one of two by a truth value.
use Rattle.std.specs.Prelude.{ℕ, Bool, true, false, List}
use Rattle.sf_core.specs.Machine.Step.{Event}
use Rattle.sf_cli.specs.Journaled.{WithJournal}
use Rattle.sf_words.specs.Words.{Text, Order, journal, run}

-- what is said of a run, alone or with its journal
abbrev pub KeptAnswer : (kept : Bool) → (Text → ℕ → Type 0) → (Text → List Event → Type 0) → Text → (status : ℕ)
    → Type 0
KeptAnswer false Answer Journal text status = Answer text status
KeptAnswer true Answer Journal text status = WithJournal Answer Journal text status

-- the order that asks for it
abbrev pub run_order : (kept : Bool) → (file entry state : Text) → (steps waits : ℕ) → Order
run_order false file entry state steps waits = run file entry state steps waits
run_order true file entry state steps waits = journal file entry state steps waits
