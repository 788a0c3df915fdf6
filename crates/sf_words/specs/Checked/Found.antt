-- The order of a command by the values that its matches have under each name.
-- Nothing is said here of how the words give them.
use Rattle.std.specs.Prelude.{Option, None, Some, List, [], codes, if◌then◌else◌, option_and_then}
use Rattle.std.specs.Borrow.{Bor}
use Rattle.std.specs.Str.{bytes_eq}
use Rattle.clap.specs.Walk.{Row}
use Rattle.clap.specs.declared.error.kind.ErrorKind.{ErrorKind}
use Rattle.clap.specs.declared.error.kind.ErrorKind.TheVariants as kind
use Rattle.sf_words.specs.Checked.Forms.{operands_id, values_at}
use Rattle.sf_words.specs.declared.order.WordFault.{WordFault}
use Rattle.sf_words.specs.declared.order.WordFault.TheVariants.{OutOfMemory, Usage}
use Rattle.sf_words.specs.Words.{Order, Text, demo_of, journal_of, ranking_of, recheck_of, replay_of, run_of, steps_of, verify_of}
use Rattle.sf_words.specs.Words.{waits_of, witness_of, workers_of}
use Rattle.sf_words.specs.WordsOf.{words_of}

-- the texts that a list has, or none
abbrev pub texts_under : Option (Bor (List (Bor Text))) → List Text
texts_under None = []
texts_under (Some texts) = words_of texts.now

abbrev pub verify_found : List Row → Option Order
verify_found rows =
    verify_of (values_at operands_id rows) (workers_of (values_at (codes "workers") rows))

abbrev pub run_found : List Row → Option Order
run_found rows = run_of (values_at operands_id rows) (steps_of (values_at (codes "steps") rows))
    (waits_of (values_at (codes "waits") rows))

abbrev pub journal_found : List Row → Option Order
journal_found rows = journal_of (values_at operands_id rows) (steps_of (values_at (codes "steps") rows))
    (waits_of (values_at (codes "waits") rows))

-- the order of the command with that name
abbrev pub order_found : Text → List Row → Option Order
order_found name rows =
    if bytes_eq (codes "verify") name then verify_found rows
    else (if bytes_eq (codes "recheck") name then recheck_of (values_at operands_id rows)
    else (if bytes_eq (codes "run") name then run_found rows
    else (if bytes_eq (codes "demo") name then demo_of (values_at operands_id rows)
    else (if bytes_eq (codes "order") name then ranking_of (values_at operands_id rows)
    else (if bytes_eq (codes "replay") name then replay_of (values_at operands_id rows)
    else (if bytes_eq (codes "witness") name then witness_of (values_at operands_id rows)
    else (if bytes_eq (codes "journal") name then journal_found rows
    else None)))))))

-- the order of the command that was met, if one was
abbrev pub met_order : Option (Text × List Row) → Option Order
met_order met = option_and_then (λ p. order_found p.0 p.1) met

-- why there are no matches, by the kind of the error
abbrev pub fault_as : ErrorKind → WordFault
fault_as kind.OutOfMemory = OutOfMemory
fault_as _ = Usage
