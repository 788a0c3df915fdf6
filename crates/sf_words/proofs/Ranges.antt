-- The numbers of an order are in their ranges: those that are written are read only there, and those that are known
-- where none are written are there.
use Rattle.std.proofs.Common.{◌≡◌, ◌≤◌, ◌&&◌, ℕ, Bool, true, false, [], ◌∷◌, List, Option, Some, None, Result, Ok, Err, IfOk, arith, codes, refl, subst}
use Rattle.std.specs.List.{list_any}
use Rattle.std.specs.Prelude.{IfSome, if◌then◌else◌, nat_le, option_and_then, option_map}
use Rattle.std.specs.Str.{bytes_eq}
use Rattle.std.specs.Str.Parse.{digits_value}
use Rattle.std.proofs.lemmas.Bool.Decides.{nat_tests}
use Rattle.sf_base.specs.declared.limits.TheConstants.{DEFAULT_STEPS, DEFAULT_WAITS, DEMO, STEPS, WAITS, WORKERS}
use Rattle.sf_words.specs.Words.{Given, HasNumbersInRange, Order, Text, chosen_of, demo, demo_given, demo_of, given, is_blank, is_numeral, journal_given, journal_of, no_options, number_of, order_of, order_of_command, ranking_given, ranking_of, recheck_given, recheck_of, replay_given, replay_of, run_given, run_of, run_options, steps_of, values_of, verify_given, verify_of, verify_options, waits_of, witness_given, witness_of, workers_of}
use Rattle.sf_words.specs.WordsOf.{order_as}
use Rattle.sf_words.specs.declared.order.Order.{Order as CodeOrder}
use Rattle.sf_words.specs.declared.order.WordFault.{WordFault}
use Rattle.sf_words.proofs.Answered.{Answers}

-- it is a number from 1 to the most, or none
abbrev IsUpTo : ℕ → Option ℕ → Type 0
IsUpTo most o = IfSome o (λ n. (1 ≤ n) × (n ≤ most))

-- it is an order whose numbers are in their ranges, or none
abbrev IsRanged : Option Order → Type 0
IsRanged o = IfSome o HasNumbersInRange

-- of two things one or the other
range-either : {A : Type 0} (P : A → Type 0) (b : Bool) (x y : A) → P x → P y → P (if b then x else y)
range-either P true x y h k = h
range-either P false x y h k = k

range-tested : (most n : ℕ) (written least most_so : Bool) → nat_le 1 n ≡ least → nat_le n most ≡ most_so
    → IsUpTo most (if written && (least && most_so) then Some n else None)
range-tested most n true true true e f = (grind (arith, nat_tests), grind (arith, nat_tests))
range-tested most n true true false e f = tt
range-tested most n true false s e f = tt
range-tested most n false l s e f = tt

-- a number that is read
range-number : (most : ℕ) (text : Text) → IsUpTo most (number_of most text)
range-number most text = range-tested most (digits_value 10 text) (is_numeral text)
    (nat_le 1 (digits_value 10 text)) (nat_le (digits_value 10 text) most) refl refl

-- the number of an option
range-chosen : (most default : ℕ) → 1 ≤ default → default ≤ most → (texts : List Text)
    → IsUpTo most (chosen_of most default texts)
range-chosen most default l m [] = (l, m)
range-chosen most default l m (text ∷ []) = range-number most text
range-chosen most default l m (text ∷ other ∷ more) = tt

-- each command
range-verify : (operands : List Text) (workers : Option ℕ) → IsUpTo WORKERS workers → IsRanged (verify_of operands workers)
range-verify [] workers h = tt
range-verify (file ∷ []) None h = tt
range-verify (file ∷ []) (Some k) h = h
range-verify (file ∷ other ∷ more) workers h = tt

range-recheck : (operands : List Text) → IsRanged (recheck_of operands)
range-recheck [] = tt
range-recheck (file ∷ []) = tt
range-recheck (file ∷ proof ∷ []) = tt
range-recheck (file ∷ proof ∷ other ∷ more) = tt

range-run : (operands : List Text) (steps waits : Option ℕ) → IsUpTo STEPS steps → IsUpTo WAITS waits
    → IsRanged (run_of operands steps waits)
range-run [] steps waits h k = tt
range-run (file ∷ []) steps waits h k = tt
range-run (file ∷ entry ∷ []) steps waits h k = tt
range-run (file ∷ entry ∷ state ∷ []) None waits h k = tt
range-run (file ∷ entry ∷ state ∷ []) (Some steps) None h k = tt
range-run (file ∷ entry ∷ state ∷ []) (Some steps) (Some waits) h k = (h.0, h.1, k.0, k.1)
range-run (file ∷ entry ∷ state ∷ other ∷ more) steps waits h k = tt

range-demo : (operands : List Text) → IsRanged (demo_of operands)
range-demo [] = tt
range-demo (number ∷ []) = go (number_of DEMO number) (range-number DEMO number)
  where
    go : (o : Option ℕ) → IsUpTo DEMO o → IsRanged (option_map (λ n. demo n) o)
    go None h = tt
    go (Some n) h = h
range-demo (number ∷ other ∷ more) = tt

range-ranking : (operands : List Text) → IsRanged (ranking_of operands)
range-ranking [] = tt
range-ranking (file ∷ []) = tt
range-ranking (file ∷ other ∷ more) = tt

range-replay : (operands : List Text) → IsRanged (replay_of operands)
range-replay [] = tt
range-replay (file ∷ []) = tt
range-replay (file ∷ entry ∷ []) = tt
range-replay (file ∷ entry ∷ state ∷ []) = tt
range-replay (file ∷ entry ∷ state ∷ schedule ∷ []) = tt
range-replay (file ∷ entry ∷ state ∷ schedule ∷ other ∷ more) = tt

range-witness : (operands : List Text) → IsRanged (witness_of operands)
range-witness [] = tt
range-witness (file ∷ []) = tt
range-witness (file ∷ other ∷ more) = tt

range-journal : (operands : List Text) (steps waits : Option ℕ) → IsUpTo STEPS steps → IsUpTo WAITS waits
    → IsRanged (journal_of operands steps waits)
range-journal [] steps waits h k = tt
range-journal (file ∷ []) steps waits h k = tt
range-journal (file ∷ entry ∷ []) steps waits h k = tt
range-journal (file ∷ entry ∷ state ∷ []) None waits h k = tt
range-journal (file ∷ entry ∷ state ∷ []) (Some steps) None h k = tt
range-journal (file ∷ entry ∷ state ∷ []) (Some steps) (Some waits) h k = (h.0, h.1, k.0, k.1)
range-journal (file ∷ entry ∷ state ∷ other ∷ more) steps waits h k = tt

range-then : (f : Given → Option Order) (o : Option Given) → ((g : Given) → IsRanged (f g))
    → IsRanged (option_and_then f o)
range-then f None h = tt
range-then f (Some g) h = h g

range-command : (command : Text) (words : List Text) → IsRanged (order_of_command command words)
range-command command words =
    range-either IsRanged (bytes_eq (codes "verify") command) _ _
    (range-then verify_given (given verify_options None words)
    (λ g. range-verify g.operands (workers_of (values_of (codes "workers") g.settings))
    (range-chosen WORKERS 1 (omega arith) (omega arith) (values_of (codes "workers") g.settings))))
    (range-either IsRanged (bytes_eq (codes "recheck") command) _ _
    (range-then recheck_given (given no_options None words) (λ g. range-recheck g.operands))
    (range-either IsRanged (bytes_eq (codes "run") command) _ _
    (range-then run_given (given run_options None words)
    (λ g. range-run g.operands (steps_of (values_of (codes "steps") g.settings))
    (waits_of (values_of (codes "waits") g.settings))
    (range-chosen STEPS DEFAULT_STEPS (omega arith) (omega arith) (values_of (codes "steps") g.settings))
    (range-chosen WAITS DEFAULT_WAITS (omega arith) (omega arith) (values_of (codes "waits") g.settings))))
    (range-either IsRanged (bytes_eq (codes "demo") command) _ _
    (range-then demo_given (given no_options None words) (λ g. range-demo g.operands))
    (range-either IsRanged (bytes_eq (codes "order") command) _ _
    (range-then ranking_given (given no_options None words) (λ g. range-ranking g.operands))
    (range-either IsRanged (bytes_eq (codes "replay") command) _ _
    (range-then replay_given (given no_options None words) (λ g. range-replay g.operands))
    (range-either IsRanged (bytes_eq (codes "witness") command) _ _
    (range-then witness_given (given no_options None words) (λ g. range-witness g.operands))
    (range-either IsRanged (bytes_eq (codes "journal") command) _ _
    (range-then journal_given (given run_options None words)
    (λ g. range-journal g.operands (steps_of (values_of (codes "steps") g.settings))
    (waits_of (values_of (codes "waits") g.settings))
    (range-chosen STEPS DEFAULT_STEPS (omega arith) (omega arith) (values_of (codes "steps") g.settings))
    (range-chosen WAITS DEFAULT_WAITS (omega arith) (omega arith) (values_of (codes "waits") g.settings)))) tt)))))))

range-order : (words : List Text) → IsRanged (order_of words)
range-order [] = tt
range-order (command ∷ words) =
    range-either IsRanged (list_any is_blank (command ∷ words)) None (order_of_command command words) tt
    (range-command command words)

range-of : (words : List Text) (order : Order) → order_of words ≡ Some order → HasNumbersInRange order
range-of words order e = subst IsRanged e (range-order words)

-- so are those of an order that is read
pub range-read : (words : List Text) (r : Result CodeOrder WordFault) → Answers words r
    → IfOk r (λ order. HasNumbersInRange (order_as order))
range-read words (Ok order) e = range-of words (order_as order) e
range-read words (Err fault) e = tt
