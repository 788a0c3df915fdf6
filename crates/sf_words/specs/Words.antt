-- The grammar of a command's words: which lists of words are an order, and which one.
-- The form of such a text is that of The Open Group, "Utility Conventions" (2018).
use Rattle.std.specs.Prelude.{ℕ, ◌≤◌, Bool, false, not, ◌&&◌, ◌||◌, if◌then◌else◌, Option, Some, None}
use Rattle.std.specs.Prelude.{List, [], ◌∷◌, ◌==◌, codes, length, nat_le}
use Rattle.std.specs.Prelude.{option_and_then, option_map}
use Rattle.std.specs.Char.{is_ascii_digit}
use Rattle.std.specs.List.{after_first, before_first, list_all, list_any}
use Rattle.std.specs.Str.{bytes_eq}
use Rattle.std.specs.Str.Parse.{digits_value}
use Rattle.sf_base.specs.declared.limits.TheConstants.{DEFAULT_STEPS, DEFAULT_WAITS, DEMO, STEPS, WAITS, WORKERS}

-- a text as its bytes
abbrev pub Text : Type 0
Text = List ℕ

-- a command with its words and numbers
pub data Order : Type 0 where
  verify : (file : Text) (workers : ℕ) → Order
  recheck : (file proof : Text) → Order
  run : (file entry state : Text) (steps waits : ℕ) → Order
  demo : (procedures : ℕ) → Order
  ranking : (file : Text) → Order
  replay : (file entry state schedule : Text) → Order
  witness : (file : Text) → Order
  journal : (file entry state : Text) (steps waits : ℕ) → Order

-- the numbers of an order are from 1 to their limits
abbrev pub HasNumbersInRange : Order → Type 0
HasNumbersInRange (verify file workers) = (1 ≤ workers) × (workers ≤ WORKERS)
HasNumbersInRange (recheck file proof) = Unit {0}
HasNumbersInRange (run file entry state steps waits) =
    (1 ≤ steps) × (steps ≤ STEPS) × (1 ≤ waits) × (waits ≤ WAITS)
HasNumbersInRange (demo procedures) = (1 ≤ procedures) × (procedures ≤ DEMO)
HasNumbersInRange (ranking file) = Unit {0}
HasNumbersInRange (replay file entry state schedule) = Unit {0}
HasNumbersInRange (witness file) = Unit {0}
HasNumbersInRange (journal file entry state steps waits) =
    (1 ≤ steps) × (steps ≤ STEPS) × (1 ≤ waits) × (waits ≤ WAITS)

-- ---- single words

-- `--`, which ends the options
abbrev pub dashes : Text
dashes = codes "--"

-- the word is empty or `-` alone
abbrev pub is_blank : Text → Bool
is_blank word = bytes_eq (codes "") word || bytes_eq (codes "-") word

-- the word begins with `-` (45)
abbrev pub begins_with_hyphen : Text → Bool
begins_with_hyphen [] = false
begins_with_hyphen (byte ∷ bytes) = byte == 45

-- the word has a `=` (61)
abbrev pub has_equals : Text → Bool
has_equals text = list_any (λ byte. byte == 61) text

-- what stands before the first `=`, or all of the text
abbrev pub name_part : Text → Text
name_part text = before_first (λ byte. byte == 61) text

-- what stands behind the first `=`, if there is one
abbrev pub value_part : Text → Option Text
value_part text = if has_equals text then Some (after_first (λ byte. byte == 61) text) else None

-- `--name` or `--name=value`, as the name and the value in the same word
abbrev pub option_of : Text → Option (Text × Option Text)
option_of [] = None
option_of (first ∷ []) = None
option_of (first ∷ second ∷ rest) =
    if first == 45 && second == 45 then Some (name_part rest, value_part rest) else None

-- the name is one of these
abbrev pub is_among : List Text → Text → Bool
is_among names name = list_any (λ (other : Text). bytes_eq other name) names

-- ---- the words behind the command's

-- an option with its value
abbrev pub Setting : Type 0
Setting = Text × Text

-- what words give: the operands, and the options with their values, both in order
pub record Given : Type 0 where
  pub operands : List Text
  pub settings : List Setting

-- what one word is: an operand, an option with its value, an option whose value is the next word,
-- the end of the options, or nothing that may stand there
pub data Part : Type 0 where
  operand : Text → Part
  setting : (name value : Text) → Part
  due : (name : Text) → Part
  ending : Part
  outside : Part

-- an option of the command, and its value where it stands in the same word
abbrev pub part_of_option : List Text → Option (Text × Option Text) → Part
part_of_option names None = outside
part_of_option names (Some (name, Some value)) =
    if is_among names name then setting name value else outside
part_of_option names (Some (name, None)) = if is_among names name then due name else outside

-- what a word is, where the value of an option is due or none is
abbrev pub part_of : List Text → Option Text → Text → Part
part_of names (Some name) word = if begins_with_hyphen word then outside else setting name word
part_of names None word =
    if not (begins_with_hyphen word) then operand word
    else (if bytes_eq word dashes then ending else part_of_option names (option_of word))

-- the option whose value is due behind that
abbrev pub due_behind : Part → Option Text
due_behind (due name) = Some name
due_behind _ = None

-- what words give that begin with that; behind the end of the options all are operands
abbrev pub given_with : Part → List Text → Option Given → Option Given
given_with (operand word) words rest =
    option_map (λ (g : Given). record g { operands = word ∷ g.operands }) rest
given_with (setting name value) words rest =
    option_map (λ (g : Given). record g { settings = (name, value) ∷ g.settings }) rest
given_with (due name) words rest = rest
given_with ending words rest = Some (record { operands = words; settings = [] })
given_with outside words rest = None

-- what the words give to a command with options of these names, where the value of an option is due
-- or none is
abbrev pub given : List Text → Option Text → List Text → Option Given
given names (Some name) [] = None
given names None [] = Some (record { operands = []; settings = [] })
given names waits (word ∷ words) =
    let part = part_of names waits word in
    given_with part words (given names (due_behind part) words)

-- ---- numbers

-- 1 to 19 decimal digits
abbrev pub is_numeral : Text → Bool
is_numeral text =
    nat_le 1 (length text) && (nat_le (length text) 19 && list_all is_ascii_digit text)

-- the number that the text writes, from 1 to the most that is allowed
abbrev pub number_of : (most : ℕ) → Text → Option ℕ
number_of most text =
    if is_numeral text && (nat_le 1 (digits_value 10 text) && nat_le (digits_value 10 text) most)
    then Some (digits_value 10 text) else None

-- the values of the option with that name, in order
abbrev pub values_of : Text → List Setting → List Text
values_of name [] = []
values_of name (one ∷ more) =
    if bytes_eq one.0 name then one.1 ∷ values_of name more else values_of name more

-- an option's number: it stands at most once, and where it doesn't stand, the number is known
abbrev pub chosen_of : (most default : ℕ) → List Text → Option ℕ
chosen_of most default [] = Some default
chosen_of most default (text ∷ []) = number_of most text
chosen_of most default (text ∷ other ∷ more) = None

-- ---- orders

-- `verify FILE [--workers K]`
abbrev pub verify_of : (operands : List Text) → (workers : Option ℕ) → Option Order
verify_of (file ∷ []) workers = option_map (λ k. verify file k) workers
verify_of _ workers = None

-- `recheck FILE PROOF`
abbrev pub recheck_of : (operands : List Text) → Option Order
recheck_of (file ∷ proof ∷ []) = Some (recheck file proof)
recheck_of _ = None

-- `run FILE ENTRY STATE [--steps N] [--waits W]`
abbrev pub run_of : (operands : List Text) → (steps waits : Option ℕ) → Option Order
run_of (file ∷ entry ∷ state ∷ []) (Some steps) (Some waits) =
    Some (run file entry state steps waits)
run_of _ steps waits = None

-- `demo N`
abbrev pub demo_of : (operands : List Text) → Option Order
demo_of (number ∷ []) = option_map (λ n. demo n) (number_of DEMO number)
demo_of _ = None

-- `order FILE`
abbrev pub ranking_of : (operands : List Text) → Option Order
ranking_of (file ∷ []) = Some (ranking file)
ranking_of _ = None

-- `replay FILE ENTRY STATE SCHEDULE`
abbrev pub replay_of : (operands : List Text) → Option Order
replay_of (file ∷ entry ∷ state ∷ schedule ∷ []) = Some (replay file entry state schedule)
replay_of _ = None

-- `witness FILE`
abbrev pub witness_of : (operands : List Text) → Option Order
witness_of (file ∷ []) = Some (witness file)
witness_of _ = None

-- `journal FILE ENTRY STATE [--steps N] [--waits W]`
abbrev pub journal_of : (operands : List Text) → (steps waits : Option ℕ) → Option Order
journal_of (file ∷ entry ∷ state ∷ []) (Some steps) (Some waits) =
    Some (journal file entry state steps waits)
journal_of _ steps waits = None

-- the options of `verify`, of `run` and `journal`, and of the others
abbrev pub verify_options : List Text
verify_options = codes "workers" ∷ []

abbrev pub run_options : List Text
run_options = codes "steps" ∷ codes "waits" ∷ []

abbrev pub no_options : List Text
no_options = []

-- how many workers, events and tries there are, by the values of those options
abbrev pub workers_of : List Text → Option ℕ
workers_of = chosen_of WORKERS 1

abbrev pub steps_of : List Text → Option ℕ
steps_of = chosen_of STEPS DEFAULT_STEPS

abbrev pub waits_of : List Text → Option ℕ
waits_of = chosen_of WAITS DEFAULT_WAITS

-- the order of each command by what its words give
abbrev pub verify_given : Given → Option Order
verify_given g = verify_of g.operands (workers_of (values_of (codes "workers") g.settings))

abbrev pub recheck_given : Given → Option Order
recheck_given g = recheck_of g.operands

abbrev pub run_given : Given → Option Order
run_given g = run_of g.operands (steps_of (values_of (codes "steps") g.settings))
    (waits_of (values_of (codes "waits") g.settings))

abbrev pub demo_given : Given → Option Order
demo_given g = demo_of g.operands

abbrev pub ranking_given : Given → Option Order
ranking_given g = ranking_of g.operands

abbrev pub replay_given : Given → Option Order
replay_given g = replay_of g.operands

abbrev pub witness_given : Given → Option Order
witness_given g = witness_of g.operands

abbrev pub journal_given : Given → Option Order
journal_given g = journal_of g.operands (steps_of (values_of (codes "steps") g.settings))
    (waits_of (values_of (codes "waits") g.settings))

-- the order of a command's word and the words behind it
abbrev pub order_of_command : Text → List Text → Option Order
order_of_command command words =
    if bytes_eq (codes "verify") command
    then option_and_then verify_given (given verify_options None words)
    else (if bytes_eq (codes "recheck") command
    then option_and_then recheck_given (given no_options None words)
    else (if bytes_eq (codes "run") command
    then option_and_then run_given (given run_options None words)
    else (if bytes_eq (codes "demo") command
    then option_and_then demo_given (given no_options None words)
    else (if bytes_eq (codes "order") command
    then option_and_then ranking_given (given no_options None words)
    else (if bytes_eq (codes "replay") command
    then option_and_then replay_given (given no_options None words)
    else (if bytes_eq (codes "witness") command
    then option_and_then witness_given (given no_options None words)
    else (if bytes_eq (codes "journal") command
    then option_and_then journal_given (given run_options None words) else None)))))))

-- the order that the words are, if they are one: the first is the command's, and no word is blank
abbrev pub order_of : List Text → Option Order
order_of [] = None
order_of (command ∷ words) =
    if list_any is_blank (command ∷ words) then None else order_of_command command words
