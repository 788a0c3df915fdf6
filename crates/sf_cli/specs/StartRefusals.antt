-- StartRefusals: the kinds of why a procedure and a text are no start, and the line that says
-- which, and of what.
-- This project's own kinds, as those of a file and of a proof.
use Rattle.std.specs.Prelude.{ℕ, [], ◌++◌, codes, decimal}
use Rattle.sf_state.specs.declared.fault.StartFault.{StartFault}
use Rattle.sf_state.specs.declared.fault.StartFault.TheVariants as fault
use Rattle.sf_words.specs.Words.{Text}

-- the number and the word of a kind; none where memory ran out
abbrev pub number_and_word : StartFault → ℕ × Text
number_and_word (fault.BadLine n) = (70, codes "BadLine")
number_and_word (fault.Twice x) = (71, codes "Twice")
number_and_word (fault.Missing x) = (72, codes "Missing")
number_and_word (fault.Unknown x) = (73, codes "Unknown")
number_and_word (fault.Unmet x) = (74, codes "Unmet")
number_and_word (fault.LeftOver l) = (75, codes "LeftOver")
number_and_word (fault.FreeEntry x) = (76, codes "FreeEntry")
number_and_word fault.TooLong = (77, codes "TooLong")
number_and_word fault.OutOfMemory = (0, codes "")

-- what is said after the word: the line, the name of what is at fault, or the cell
abbrev pub rest_text : StartFault → Text
rest_text (fault.BadLine n) = codes " line " ++ decimal n
rest_text (fault.Twice x) = codes " " ++ x
rest_text (fault.Missing x) = codes " " ++ x
rest_text (fault.Unknown x) = codes " " ++ x
rest_text (fault.Unmet x) = codes " " ++ x
rest_text (fault.LeftOver l) = codes " @" ++ decimal l
rest_text (fault.FreeEntry x) = codes " " ++ x
rest_text fault.TooLong = []
rest_text fault.OutOfMemory = []

-- the line up to its word
abbrev pub kind_text : StartFault → Text
kind_text f = codes "start refused: " ++ decimal (number_and_word f).0 ++ codes " " ++ (number_and_word f).1

-- the line; nothing is said where memory ran out
abbrev pub start_refusal_text : StartFault → Text
start_refusal_text fault.OutOfMemory = []
start_refusal_text f = kind_text f ++ rest_text f ++ codes "\n"
