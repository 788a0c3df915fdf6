-- FoundText: what is said of what is found of a schedule, and of why nothing is.
-- This project's own lines; a race is named as data races are, by two tasks and the thing that they share.
use Rattle.std.specs.Prelude.{ℕ, Option, Some, None, List, [], ◌++◌, codes, decimal, slice_get}
use Rattle.sf_base.specs.declared.ids.ResId.{ResId}
use Rattle.sf_base.specs.declared.ids.Slot.{Slot}
use Rattle.sf_base.specs.declared.ids.Thing.{Thing}
use Rattle.sf_base.specs.declared.ids.Thing.TheVariants.{Shared, Own, At}
use Rattle.sf_base.specs.declared.value.Value.{Value}
use Rattle.sf_core.specs.Machine.Config.{Path}
use Rattle.sf_core.specs.Program.Syntax.{Program, Resource}
use Rattle.sf_machine.specs.declared.event.Stepped.{Stepped}
use Rattle.sf_machine.specs.declared.event.Stepped.TheVariants as stepped
use Rattle.sf_replay.specs.declared.found.Found.{Found}
use Rattle.sf_replay.specs.declared.found.Found.TheVariants.{Clean, Absent, Race}
use Rattle.sf_replay.specs.declared.schedule.Scheduled.{Scheduled}
use Rattle.sf_replay.specs.declared.schedule.ScheduleFault.{ScheduleFault}
use Rattle.sf_replay.specs.declared.schedule.ScheduleFault.TheVariants as fault
use Rattle.sf_state.specs.Names.{qualified}
use Rattle.sf_state.specs.Refused.{cell_name, name_at}
use Rattle.sf_state.specs.StateText.{value_text}
use Rattle.sf_cli.specs.Ran.{resource_name}
use Rattle.sf_cli.specs.TaskText.{task_text}
use Rattle.sf_words.specs.Words.{Text}

-- the names of the variables of a resource, none where it isn't there
abbrev pub variables_of : Option Resource → List Text
variables_of None = []
variables_of (Some r) = r.variables

-- the name of the variable of that number of a resource
abbrev pub variable_name : Program → ResId → ℕ → Text
variable_name p r i = name_at (variables_of (slice_get p.resources r.0)) i

-- a slot, by the number of the event that made it and its place among those
abbrev pub slot_text : Slot → Text
slot_text s = codes "slot " ++ decimal s.event ++ codes "." ++ decimal s.index

-- a thing that steps read and write: a resource's variable, another one, or a cell
abbrev pub thing_text : Program → Thing → Text
thing_text p (Shared r i) = qualified (resource_name p r) (variable_name p r i)
thing_text p (Own s) = slot_text s
thing_text p (At location) = cell_name location

-- after so many events
abbrev pub step_text : (count : ℕ) → Text
step_text count = codes "step " ++ decimal count

-- that this task is at an absent cell, and at which value it looks for it
abbrev pub absent_text : (count : ℕ) → Path → Value → Text
absent_text count path value = step_text count ++ codes ": task " ++ task_text path ++ codes " absent "
    ++ value_text value ++ codes "\n"

-- what is found
abbrev pub found_text : Program → Found → Text
found_text p Clean = codes "no such step\n"
found_text p (Absent count path value) = absent_text count path value
found_text p (Race count path other thing) = step_text count ++ codes ": tasks " ++ task_text path ++ codes " "
    ++ task_text other ++ codes " race on " ++ thing_text p thing ++ codes "\n"

-- its status
abbrev pub found_status : Found → ℕ
found_status Clean = 0
found_status (Absent count path value) = 10
found_status (Race count path other thing) = 10

-- why a text is no schedule; nothing is said where memory ran out
abbrev pub schedule_refusal_text : ScheduleFault → Text
schedule_refusal_text (fault.BadLine line) = codes "schedule refused: 80 BadLine line " ++ decimal line ++ codes "\n"
schedule_refusal_text fault.TooLong = codes "schedule refused: 81 TooLong\n"
schedule_refusal_text fault.OutOfMemory = []

-- the line of an event, if there is one
abbrev pub line_of : Option Scheduled → ℕ
line_of None = 0
line_of (Some s) = s.line

-- the line of the event of that number, counted from 0
abbrev pub line_at : List Scheduled → (number : ℕ) → ℕ
line_at schedule number = line_of (slice_get schedule number)

-- why an event is none
abbrev pub why_text : Stepped → Text
why_text stepped.Moved = []
why_text (stepped.Absent value) = []
why_text (stepped.Waiting r) = codes "Waiting"
why_text stepped.NoTask = codes "NoTask"
why_text stepped.Stale = codes "Stale"
why_text stepped.TooDeep = codes "TooDeep"

-- the event of that number is none
abbrev pub no_event_text : List Scheduled → (number : ℕ) → Stepped → Text
no_event_text schedule number why = codes "schedule refused: 82 NotAnEvent line " ++ decimal (line_at schedule number)
    ++ codes " " ++ why_text why ++ codes "\n"
