-- What the clocks, the stamps and the logs of parts keep: an event is later than all that led to
-- it.
-- Lamport, "Time, Clocks, and the Ordering of Events in a Distributed System" (1978).
use Rattle.std.specs.Prelude.{◌≡◌, ◌<◌, ◌≤◌, ◌+◌, max, List, length}
use Rattle.sf_base.specs.declared.limits.TheConstants.{STEPS}
use Rattle.sf_core.specs.Machine.Step.{Event}
use Rattle.sf_core.specs.Machine.Whole.{numbers}
use Rattle.sf_core.specs.Program.Syntax.{Program}
use Rattle.sf_part.specs.Steps.{Private, Enters, Exits, Settles, Forks, Joins}
use Rattle.sf_part.specs.Timed.{TimedPart, TimedContent, IsInTime}

-- the clock after an event, which is its stamp, is later than that before it, than the stamp of the
-- content that it takes in, and than the clocks of the children that it joins; it is the stamp of
-- the content that is left behind, and children begin with it
unfoldable pub StampsRise : Type 0
StampsRise = (p : Program) (event : Event) (a b : TimedPart)
    → (Private p event a b → a.clock < b.clock)
    × ((k : TimedContent) → Enters p event a k b → (a.clock < b.clock) × (k.stamp < b.clock))
    × ((k : TimedContent) → Exits p event a k b → (a.clock < b.clock) × (k.stamp ≡ b.clock))
    × ((one two : TimedPart) → Forks p event a b one two
    → (a.clock < b.clock) × (one.clock ≡ b.clock) × (two.clock ≡ b.clock))
    × ((one two : TimedPart) → Joins p event a one two b
    → (a.clock < b.clock) × (one.clock < b.clock) × (two.clock < b.clock))

-- a private event keeps a part in time
unfoldable pub PrivateEventsStayInTime : Type 0
PrivateEventsStayInTime = (p : Program) (event : Event) (a b : TimedPart) → Private p event a b
    → IsInTime a
    → IsInTime b

-- so does an entry, where the content's stamp leaves room for the units
unfoldable pub EntriesStayInTime : Type 0
EntriesStayInTime = (p : Program) (event : Event) (a b : TimedPart) (k : TimedContent)
    → Enters p event a k b
    → max a.clock k.stamp + length (numbers a.part.supply) ≤ STEPS → IsInTime a → IsInTime b

-- so does an exit
unfoldable pub ExitsStayInTime : Type 0
ExitsStayInTime = (p : Program) (event : Event) (a b : TimedPart) (k : TimedContent)
    → Exits p event a k b
    → IsInTime a → IsInTime b

-- so does the return that sets the resources up
unfoldable pub SettlingStaysInTime : Type 0
SettlingStaysInTime = (p : Program) (event : Event) (a b : TimedPart) (settled : List TimedContent)
    → Settles p event a settled b → IsInTime a → IsInTime b

-- so does a fork, whose children are in time too
unfoldable pub ForksStayInTime : Type 0
ForksStayInTime = (p : Program) (event : Event) (a b one two : TimedPart)
    → Forks p event a b one two → IsInTime a
    → IsInTime b × IsInTime one × IsInTime two

-- so does a join, where the children's clocks leave room for the units that they hand back
unfoldable pub JoinsStayInTime : Type 0
JoinsStayInTime = (p : Program) (event : Event) (a one two b : TimedPart)
    → Joins p event a one two b
    → max a.clock (max one.clock two.clock)
    + (length (numbers one.part.supply) + length (numbers two.part.supply))
    ≤ STEPS → IsInTime a → IsInTime one → IsInTime two → IsInTime b
