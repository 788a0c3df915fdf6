-- The events of the code as those of the definitions, with the cell that a `new` makes.
-- Ordinary: the same parts.
use Rattle.sf_base.specs.HeapStore.{Cell}
use Rattle.sf_core.specs.Machine.Step.{Event}
use Rattle.sf_frame.specs.declared.stamp.Stamp.{Stamp}

-- the event that has that stamp and that cell
abbrev pub event_of : Stamp → Cell → Event
event_of s cell = record { task = s.task; number = s.number; at = s.at; fields = cell }
