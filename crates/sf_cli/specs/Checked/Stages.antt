-- What a part of the work says over a shelf: its own answer, or that a file can't be read.
-- Ordinary: a sum of the two.
use Rattle.std.specs.Prelude.{◌≡◌, ℕ}
use Rattle.sf_io.specs.Increased.{Increased}
use Rattle.sf_cli.specs.Answer.{IsAnswering, read_fault_text}
use Rattle.sf_words.specs.Words.{Text}

-- that text and that status are an answer; or the work came to a file of some name, whose count of faults increased, and
-- the text says so
pub data Says (Answer : Text → ℕ → Type 0) (Comes : Text → Type 0) (before after : Text → ℕ) (text : Text) (status : ℕ)
    : Type 0 where
  says : IsAnswering status → Answer text status → Says Answer Comes before after text status
  fails : status ≡ 7 → (name : Text) → Comes name → Increased (before name) (after name) → text ≡ read_fault_text name
      → Says Answer Comes before after text status
