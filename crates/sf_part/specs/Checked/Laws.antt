-- The law of parts: from parts and contents that are a configuration, an event of one of them is a
-- step of the machine, and they are a configuration again, whatever the other parts and contents
-- are.
-- Yang and O'Hearn, "A Semantic Basis for Local Reasoning" (2002); Brookes (2007) for regions and
-- parallel calls.
use Rattle.std.specs.Prelude.{◌≡◌, ◌<◌, ℕ, List, [], ◌∷◌, ◌++◌, ◌↔◌, length, Some, None}
use Rattle.sf_base.specs.declared.ids.ProcId.{ProcId}
use Rattle.sf_base.specs.declared.ids.ResId.{ResId}
use Rattle.sf_base.specs.HeapStore.{Heap, Store}
use Rattle.sf_core.specs.Checked.Machine.Laws.{HasNumber, Makes}
use Rattle.sf_core.specs.Machine.Config.{runs, Path, Config}
use Rattle.sf_core.specs.Machine.Enabled.{cell}
use Rattle.sf_core.specs.Machine.Next.{next}
use Rattle.sf_core.specs.Machine.Reach.{Reach}
use Rattle.sf_core.specs.Machine.Numbered.{NumberedFrom}
use Rattle.sf_core.specs.Machine.Step.{Event}
use Rattle.sf_core.specs.Machine.Start.{Start}
use Rattle.sf_core.specs.Machine.Supplies.{Supply, has, units}
use Rattle.sf_core.specs.Machine.Whole.{Part, Content, Whole}
use Rattle.sf_core.specs.Program.Syntax.{Program}
use Rattle.sf_part.specs.First.{First}
use Rattle.sf_part.specs.Steps.{Private, Privates, Enters, Exits, Settles, Forks, Joins}
use Rattle.sf_part.specs.Supplied.{Supplied}
use Rattle.sf_part.specs.Timed.{TimedPart, TimedContent, contents_of}

-- the order of the parts doesn't matter: each may come first
unfoldable pub PartsInAnyOrder : Type 0
PartsInAnyOrder = (before after : List Part) (a : Part) (contents : List Content) (c : Config)
    → Whole (before ++ a ∷ after) contents c ↔ Whole (a ∷ before ++ after) contents c

-- nor does that of the contents
unfoldable pub ContentsInAnyOrder : Type 0
ContentsInAnyOrder = (parts : List Part) (before after : List Content) (k : Content) (c : Config)
    → Whole parts (before ++ k ∷ after) c ↔ Whole parts (k ∷ before ++ after) c

-- Leads: the events lead from a configuration to one that the new parts and the contents are; and
-- where the units of the old parts are those of a tree of supplies, the events take their numbers
-- from that tree, and those of the new parts are what is left of it
pub record Leads (p : Program) (events : List Event) (c : Config) (olds news : List Part)
    (contents : List Content) :
    Type 0 where
  pub config : Config
  pub reaches : Reach p c events config
  pub whole : Whole news contents config
  pub numbered : (supply : Supply) → Supplied olds supply
      → (rest : Supply) × NumberedFrom p c supply events config rest × Supplied news rest

-- what events lead to more events may lead on from
unfoldable pub LeadsCompose : Type 0
LeadsCompose = (p : Program) (events more : List Event) (c : Config) (olds between news : List Part)
    (contents others : List Content) → (l : Leads p events c olds between contents)
    → Leads p more l.config between news others → Leads p (events ++ more) c olds news others

-- private events of a part are steps
unfoldable pub PrivateEventsAreSteps : Type 0
PrivateEventsAreSteps = (p : Program) (events : List Event) (a b : TimedPart)
    (before after : List Part)
    (contents : List Content) (c : Config) → Privates p a events b
    → Whole (before ++ a.part ∷ after) contents c
    → Leads p events c (before ++ a.part ∷ after) (before ++ b.part ∷ after) contents

-- the entry of a region is a step, which takes the content out of those that are left
unfoldable pub EntriesAreSteps : Type 0
EntriesAreSteps = (p : Program) (event : Event) (a b : TimedPart) (k : TimedContent)
    (before after : List Part)
    (earlier later : List Content) (c : Config) → Enters p event a k b
    → Whole (before ++ a.part ∷ after) (earlier ++ k.content ∷ later) c
    → Leads p (event ∷ []) c (before ++ a.part ∷ after) (before ++ b.part ∷ after)
    (earlier ++ later)

-- the exit from a region is a step, which puts the content among the others
unfoldable pub ExitsAreSteps : Type 0
ExitsAreSteps = (p : Program) (event : Event) (a b : TimedPart) (k : TimedContent)
    (before after : List Part)
    (earlier later : List Content) (c : Config) → Exits p event a k b
    → Whole (before ++ a.part ∷ after) (earlier ++ later) c
    → Leads p (event ∷ []) c (before ++ a.part ∷ after) (before ++ b.part ∷ after)
    (earlier ++ k.content ∷ later)

-- a fork is a step, which puts the children's parts beside their parent's
unfoldable pub ForksAreSteps : Type 0
ForksAreSteps = (p : Program) (event : Event) (a b one two : TimedPart) (before after : List Part)
    (contents : List Content) (c : Config) → Forks p event a b one two
    → Whole (before ++ a.part ∷ after) contents c
    → Leads p (event ∷ []) c (before ++ a.part ∷ after)
    (before ++ b.part ∷ one.part ∷ two.part ∷ after) contents

-- a join is a step, after which the children's parts are no more
unfoldable pub JoinsAreSteps : Type 0
JoinsAreSteps = (p : Program) (event : Event) (a one two b : TimedPart) (before after : List Part)
    (contents : List Content) (c : Config) → Joins p event a one two b
    → Whole (before ++ a.part ∷ one.part ∷ two.part ∷ after) contents c
    → Leads p (event ∷ []) c (before ++ a.part ∷ one.part ∷ two.part ∷ after)
    (before ++ b.part ∷ after) contents

-- the return of the procedure that sets the resources up is a step, which puts their contents
-- before the others; nothing but resources of the program is held
unfoldable pub SettlingIsAStep : Type 0
SettlingIsAStep = (p : Program) (event : Event) (a b : TimedPart) (settled : List TimedContent)
    (before after : List Part) (contents : List Content) (c : Config) → Settles p event a settled b
    → ((r : ResId) (path : Path) → c.common.held r ≡ Some path → r.0 < length p.resources)
    → Whole (before ++ a.part ∷ after) contents c
    → Leads p (event ∷ []) c (before ++ a.part ∷ after) (before ++ b.part ∷ after)
    (contents_of settled ++ contents)

-- private events of two parts never have one number, whatever comes between them
unfoldable pub EventsOfPartsDiffer : Type 0
EventsOfPartsDiffer = (p : Program) (events others : List Event) (a b f g : TimedPart)
    (before between after : List Part) (contents : List Content) (c : Config)
    → Privates p a events b
    → Privates p f others g → Whole (before ++ a.part ∷ (between ++ f.part ∷ after)) contents c
    → (number : ℕ) → HasNumber events number → HasNumber others number → ⊥

-- a cell that an event of a part makes is at a location that is absent from the whole heap
unfoldable pub NewCellsAreAbsent : Type 0
NewCellsAreAbsent = (p : Program) (event : Event) (a b : TimedPart) (before after : List Part)
    (contents : List Content) (c : Config) → (e : Private p event a b)
    → Whole (before ++ a.part ∷ after) contents c
    → (location : ℕ) → Makes p event (next (runs e.frames)) (cell location)
    → c.common.heap location ≡ None

-- the first part and the contents beside it are the configuration in which the procedure starts,
-- and the units are those from the base on
unfoldable pub FirstPartsAreWhole : Type 0
FirstPartsAreWhole = (p : Program) (f : ProcId) (store : Store) (heap : Heap) (c : Config)
    (base count : ℕ)
    (a : TimedPart) (contents : List TimedContent) → (s : Start p f store heap c)
    → First p f s.procedure s.beginning store heap base count a contents
    → Whole (a.part ∷ []) (contents_of contents) c × Supplied (a.part ∷ []) (has (units base count))
