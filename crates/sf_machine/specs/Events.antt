-- The events of the code as those of the definitions.
-- Ordinary: the same parts.
use Rattle.sf_core.specs.Machine.Step.{Event}
use Rattle.sf_heap.specs.Cells.{cell_of}
use Rattle.sf_machine.specs.declared.event.Event.{Event as CodeEvent}

-- the event
abbrev pub event_of : CodeEvent → Event
event_of e = record { task = e.task; number = e.number; at = e.at; fields = cell_of e.fields }
