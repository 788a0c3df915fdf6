-- The text of a schedule: which events its lines give, and why it is refused.
-- Ordinary: a format of lines, read leniently: "be liberal in what you accept", Postel, RFC 761 (1980).
use Rattle.std.specs.Prelude.{◌≡◌, ◌&&◌, ◌==◌, ℕ, suc, Bool, false, nat_lt, nat_le, if◌then◌else◌, Option, Some, None, List, [], ◌∷◌, ◌++◌, codes, drop, length, map, unwrap_or}
use Rattle.std.specs.Option.{option_or}
use Rattle.std.specs.Str.{bytes_eq}
use Rattle.std.specs.Str.Parse.{digits_value}
use Rattle.sf_base.specs.declared.limits.TheConstants.{TURNS}
use Rattle.sf_base.specs.declared.path.Turn.{Turn}
use Rattle.sf_base.specs.declared.path.Turn.TheVariants.{Left as left, Right as right}
use Rattle.sf_base.specs.declared.value.Value.{Value}
use Rattle.sf_core.specs.Machine.Config.{Path}
use Rattle.sf_core.specs.Machine.Step.{Event}
use Rattle.sf_lex.specs.Lexeme.{is_digit, is_some_of}
use Rattle.sf_lines.specs.Lines.{Text, lines, only, words}
use Rattle.sf_machine.specs.Events.{event_of}
use Rattle.sf_replay.specs.declared.limits.TheConstants.{EVENTS, NUMBERS, SCHEDULE_BYTES}
use Rattle.sf_replay.specs.declared.schedule.Said.{Said}
use Rattle.sf_replay.specs.declared.schedule.Said.TheVariants.{Nothing, Bad, Happens}
use Rattle.sf_replay.specs.declared.schedule.Scheduled.{Scheduled}
use Rattle.sf_replay.specs.declared.schedule.ScheduleFault.{ScheduleFault}
use Rattle.sf_replay.specs.declared.schedule.ScheduleFault.TheVariants.{BadLine, TooLong}
use Rattle.sf_state.specs.CellWords.{cell_from}
use Rattle.sf_state.specs.Words.{begins}

-- the events of a schedule
abbrev pub events_of : List Scheduled → List Event
events_of schedule = map (λ s. event_of s.event) schedule

-- the number is one of an event: from 1 on, and below the limit
abbrev pub is_number : ℕ → Bool
is_number n = nat_le 1 n && nat_lt n NUMBERS

-- the number that digits write
abbrev pub number_from : Text → Option ℕ
number_from digits = if is_some_of is_digit digits && is_number (digits_value 10 digits)
    then Some (digits_value 10 digits) else None

-- the location that `@` and digits write
abbrev pub place_from : Text → Option ℕ
place_from [] = None
place_from (b ∷ bs) = if b == 64 then number_from bs else None

-- the turn that a digit writes
abbrev pub turn_from : ℕ → Option Turn
turn_from b = if b == 49 then Some left else if b == 50 then Some right else None

-- the turn that a dot and a digit write
abbrev pub turn_in : (dot digit : ℕ) → Option Turn
turn_in dot digit = if dot == 46 then turn_from digit else None

-- a turn and those after it
abbrev pub turns_with : Option Turn → Option Path → Option Path
turns_with None rest = None
turns_with (Some turn) None = None
turns_with (Some turn) (Some rest) = Some (turn ∷ rest)

-- the turns that are written, each as a dot and a digit
abbrev pub turns_from : Text → Option Path
turns_from [] = Some []
turns_from (dot ∷ []) = None
turns_from (dot ∷ digit ∷ rest) = turns_with (turn_in dot digit) (turns_from rest)

-- a path that a task may have
abbrev pub path_within : Option Path → Option Path
path_within None = None
path_within (Some path) = if nat_le (length path) TURNS then Some path else None

-- the task that `0` and turns write
abbrev pub task_from : Text → Option Path
task_from [] = None
task_from (b ∷ rest) = if b == 48 then path_within (turns_from rest) else None

-- an event, once its parts are read
abbrev pub event_with : (task : Path) → (number : ℕ) → (at : Option ℕ) → (cell : Option (List Value)) → Said
event_with task number None cell = Bad
event_with task number (Some at) None = Bad
event_with task number (Some at) (Some values) =
    Happens (record { task = task; number = number; at = at; fields = values })

-- an event with what comes after its number: nothing, or the cell that a `new` makes
abbrev pub placed : (fields : List Text) → Path → ℕ → List Text → Said
placed fields task number [] = event_with task number (Some number) (cell_from fields [])
placed fields task number (word ∷ more) = event_with task number (place_from word) (cell_from fields more)

-- an event with a number
abbrev pub numbered : (fields : List Text) → Path → Option ℕ → List Text → Said
numbered fields task None more = Bad
numbered fields task (Some number) more = placed fields task number more

-- an event of a task
abbrev pub happens : (fields : List Text) → Option Path → List Text → Said
happens fields None more = Bad
happens fields (Some task) [] = Bad
happens fields (Some task) (word ∷ more) = numbered fields task (number_from word) more

-- what a line says that has these words: one without words, and a comment, nothing; others an event
abbrev pub said : (fields : List Text) → List Text → Said
said fields [] = Nothing
said fields (word ∷ more) = if begins 35 word then Nothing else happens fields (task_from word) more

-- the word is `schedule`
abbrev pub is_schedule_word : Option Text → Bool
is_schedule_word None = false
is_schedule_word (Some word) = bytes_eq word (codes "schedule")

-- the line is `schedule`
abbrev pub is_schedule : Text → Bool
is_schedule line = is_schedule_word (only (words line))

-- the number of the first such line, if there is one, of lines before which there are so many
abbrev pub schedule_line : (before : ℕ) → List Text → Option ℕ
schedule_line k [] = None
schedule_line k (line ∷ more) = if is_schedule line then Some (suc k) else schedule_line (suc k) more

-- how many lines are skipped: all up to the first `schedule`, that one too, and none where there is none
abbrev pub skipped : Text → ℕ
skipped text = unwrap_or (schedule_line 0 (lines text)) 0

-- the event that a line gives, with its number
abbrev pub event_in : (line : ℕ) → Said → List Scheduled
event_in line Nothing = []
event_in line Bad = []
event_in line (Happens event) = record { event = event; line = line } ∷ []

-- the events that lines give before which there are so many
abbrev pub events_from : (fields : List Text) → (before : ℕ) → List Text → List Scheduled
events_from fields k [] = []
events_from fields k (line ∷ more) = event_in (suc k) (said fields (words line)) ++ events_from fields (suc k) more

-- why a line of that number is refused, after so many events: it has none of the forms, or is one event too many
abbrev pub line_refusal : (line count : ℕ) → Said → Option ScheduleFault
line_refusal line count Nothing = None
line_refusal line count Bad = Some (BadLine line)
line_refusal line count (Happens event) = if nat_lt count EVENTS then None else Some TooLong

-- how many events there are with that of a line
abbrev pub count_with : (count : ℕ) → Said → ℕ
count_with count Nothing = count
count_with count Bad = count
count_with count (Happens event) = suc count

-- why the first line that is refused is refused, of lines before which there are so many with so many events
abbrev pub refusal_from : (fields : List Text) → (before count : ℕ) → List Text → Option ScheduleFault
refusal_from fields k count [] = None
refusal_from fields k count (line ∷ more) = option_or (line_refusal (suc k) count (said fields (words line)))
    (refusal_from fields (suc k) (count_with count (said fields (words line))) more)

-- the lines of a text that aren't skipped
abbrev pub lines_kept : Text → List Text
lines_kept text = drop (skipped text) (lines text)

-- why a text is refused: before all else, because it is too long
abbrev pub schedule_refusal : (fields : List Text) → Text → Option ScheduleFault
schedule_refusal fields text = if nat_lt SCHEDULE_BYTES (length text) then Some TooLong
    else refusal_from fields (skipped text) 0 (lines_kept text)

-- the text isn't refused, and gives these events
pub record GivesSchedule (fields : List Text) (text : Text) (schedule : List Scheduled) : Type 0 where
  pub accepted : schedule_refusal fields text ≡ None
  pub is : schedule ≡ events_from fields (skipped text) (lines_kept text)
