-- Laws of the grammar, in words of their own.
-- Ordinary: a command line means one thing, and everything that can be meant can be said.
use Rattle.std.specs.Prelude.{◌≡◌, false, List, Some}
use Rattle.sf_words.specs.Words.{HasNumbersInRange, Order, Text, demo, is_blank, journal, order_of, ranking, recheck, replay, run, verify, witness}

-- words are at most one order
abbrev pub WordsAreOneOrder : Type 0
WordsAreOneOrder = (words : List Text) (one other : Order) → order_of words ≡ Some one
    → order_of words ≡ Some other → one ≡ other

-- no word of the order is blank
abbrev pub HasNoBlankWord : Order → Type 0
HasNoBlankWord (verify file workers) = is_blank file ≡ false
HasNoBlankWord (recheck file proof) = (is_blank file ≡ false) × (is_blank proof ≡ false)
HasNoBlankWord (run file entry state steps waits) =
    (is_blank file ≡ false) × (is_blank entry ≡ false) × (is_blank state ≡ false)
HasNoBlankWord (demo procedures) = Unit {0}
HasNoBlankWord (ranking file) = is_blank file ≡ false
HasNoBlankWord (replay file entry state schedule) =
    (is_blank file ≡ false) × (is_blank entry ≡ false) × (is_blank state ≡ false) × (is_blank schedule ≡ false)
HasNoBlankWord (witness file) = is_blank file ≡ false
HasNoBlankWord (journal file entry state steps waits) =
    (is_blank file ≡ false) × (is_blank entry ≡ false) × (is_blank state ≡ false)

-- an order that can be meant: no word of it is blank, and its numbers are in their ranges
abbrev pub CanBeMeant : Order → Type 0
CanBeMeant order = HasNoBlankWord order × HasNumbersInRange order

-- each such order is spelled by some words
abbrev pub EachOrderIsSpelled : Type 0
EachOrderIsSpelled =
    (order : Order) → CanBeMeant order → (words : List Text) × (order_of words ≡ Some order)
