-- How the code's words and orders are read as those of the grammar: each text as its bytes.
-- Nothing is computed here.
use Rattle.std.specs.Prelude.{Option, Some, None, List, map}
use Rattle.std.specs.Borrow.{Bor}
use Rattle.sf_words.specs.declared.order.Order.{Order as CodeOrder}
use Rattle.sf_words.specs.declared.order.Order.TheVariants.{Verify, Recheck, Run, Demo, Ranking, Replay, Witness, Journal}
use Rattle.sf_words.specs.Words.{Text, Order, verify, recheck, run, demo, ranking, replay, witness, journal}

-- the words
abbrev pub words_of : List (Bor Text) → List Text
words_of words = map (λ (word : Bor Text). word.now) words

-- an order of the code
abbrev pub order_as : CodeOrder → Order
order_as (Verify file workers) = verify file.now workers
order_as (Recheck file proof) = recheck file.now proof.now
order_as (Run file entry state steps waits) = run file.now entry.now state.now steps waits
order_as (Demo procedures) = demo procedures
order_as (Ranking file) = ranking file.now
order_as (Replay file entry state schedule) = replay file.now entry.now state.now schedule.now
order_as (Witness file) = witness file.now
order_as (Journal file entry state steps waits) = journal file.now entry.now state.now steps waits

-- an order of the code, if there is one
abbrev pub order_in : Option CodeOrder → Option Order
order_in None = None
order_in (Some order) = Some (order_as order)
