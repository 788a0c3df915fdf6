-- Rejections: the kinds of what is wrong with the text of a proof, and the line that says which,
-- and where.
-- This project's own kinds; a place is the number of a line, as of any text that is read line by
-- line.
use Rattle.std.specs.Prelude.{ℕ, suc, ◌-◌, List, [], ◌++◌, codes, decimal, length, slice_get, unwrap_or}
use Rattle.sf_check.specs.declared.refusal.Refusal.{Refusal as TagRefusal}
use Rattle.sf_check.specs.declared.refusal.Refusal.TheVariants as c
use Rattle.sf_proof.specs.declared.fault.ProofFault.{ProofFault}
use Rattle.sf_proof.specs.declared.fault.ProofFault.TheVariants as f
use Rattle.sf_cli.specs.declared.rejection.Rejection.{Rejection}
use Rattle.sf_cli.specs.declared.rejection.Rejection.TheVariants.{At, OutOfMemory}
use Rattle.sf_cli.specs.declared.rejection.RejectionKind.{RejectionKind}
use Rattle.sf_cli.specs.declared.rejection.RejectionKind.TheVariants as k
use Rattle.sf_words.specs.Words.{Text}

-- what is refused for a fault of the text: a text that is too long, at its first line
abbrev pub of_text : ProofFault → Rejection
of_text (f.BadLine line) = At k.BadLine line
of_text f.TooLong = At k.TooLong 1
of_text f.OutOfMemory = OutOfMemory

-- the line that is named for the tag of that number, counted from 0: its own; past the last tag the
-- line after the last tag's, which is the second one where there is none
abbrev pub line_of : (lines : List ℕ) → (number : ℕ) → ℕ
line_of lines number =
    unwrap_or (slice_get lines number) (suc (unwrap_or (slice_get lines (length lines - 1)) 1))

-- the kind of what is wrong with a tag
abbrev pub kind_of : TagRefusal → RejectionKind
kind_of c.NotARule = k.NotARule
kind_of c.Unfinished = k.Unfinished
kind_of c.Leftover = k.Leftover

-- what is refused for the tag of that number, of tags that stand on these lines
abbrev pub of_tags : (lines : List ℕ) → (number : ℕ) → TagRefusal → Rejection
of_tags lines number why = At (kind_of why) (line_of lines number)

-- the number of a kind
abbrev pub kind_number : RejectionKind → ℕ
kind_number k.BadLine = 50
kind_number k.TooLong = 51
kind_number k.NotARule = 60
kind_number k.Unfinished = 61
kind_number k.Leftover = 62

-- the line; nothing is said where memory ran out
abbrev pub rejection_text : Rejection → Text
rejection_text (At kind line) =
    codes "proof refused: line " ++ decimal line ++ codes " kind " ++ decimal (kind_number kind) ++ codes "\n"
rejection_text OutOfMemory = []
