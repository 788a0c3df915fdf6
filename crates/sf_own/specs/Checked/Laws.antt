-- The laws of safe parts: the first part is safe, and every event of a part keeps it so.
-- O'Hearn (2007), Brookes (2007): what a task owns stays enough for it.
use Rattle.std.specs.Prelude.{ℕ, List}
use Rattle.std.specs.List.{AllByRecursion}
use Rattle.sf_base.specs.declared.ids.ProcId.{ProcId}
use Rattle.sf_base.specs.HeapStore.{Heap, Store}
use Rattle.sf_core.specs.Machine.Config.{Config}
use Rattle.sf_core.specs.Machine.Start.{Start}
use Rattle.sf_core.specs.Machine.Step.{Event}
use Rattle.sf_core.specs.Program.Syntax.{Program}
use Rattle.sf_part.specs.First.{First}
use Rattle.sf_part.specs.Given.{Gives, GivesEach, IsContentOf}
use Rattle.sf_part.specs.Going.{GoesTo}
use Rattle.sf_part.specs.Keeps.{Keeps}
use Rattle.sf_part.specs.Lent.{Lends}
use Rattle.sf_part.specs.Of.{IsOf}
use Rattle.sf_part.specs.Steps.{Enters, Joins, Private}
use Rattle.sf_part.specs.Timed.{TimedPart, TimedContent}
use Rattle.sf_own.specs.Checked.Accepted.{IsAccepted}
use Rattle.sf_own.specs.Checked.Safe.{AreSafe, IsSafe, IsSafeWaiting}
use Rattle.sf_safe.specs.Checked.Contract.{Known}
use Rattle.sf_safe.specs.Checked.LawsOfShares.{entry_of}

-- the part with which a procedure starts, settled or fresh, beside contents that are just the
-- resources', is safe, and owes what that procedure's return owes
unfoldable pub FirstPartsAreSafe : Type 0
FirstPartsAreSafe = (p : Program) → IsAccepted p → (f : ProcId) (store : Store) (heap : Heap)
    (c : Config) (base count : ℕ) (a : TimedPart) (contents : List TimedContent)
    → (s : Start p f store heap c)
    → First p f s.procedure s.beginning store heap base count a contents
    → AllByRecursion (λ (k : TimedContent). IsContentOf p k.content) contents
    → IsSafe p (entry_of f s.procedure store) a.part

-- a private event keeps a part safe
unfoldable pub PrivateEventsKeepSafe : Type 0
PrivateEventsKeepSafe = (p : Program) → IsAccepted p → (owed : Known) (event : Event)
    (before after : TimedPart) → Keeps before → Private p event before after
    → IsSafe p owed before.part → IsSafe p owed after.part

-- so does the entry of a region, with a content that is just its resource's
unfoldable pub EntriesKeepSafe : Type 0
EntriesKeepSafe = (p : Program) → IsAccepted p → (owed : Known) (event : Event)
    (before : TimedPart) (content : TimedContent) (after : TimedPart)
    → Enters p event before content after → IsContentOf p content.content
    → IsSafe p owed before.part → IsSafe p owed after.part

-- so does the exit from one, which leaves a content behind that is just its resource's
unfoldable pub ExitsKeepSafe : Type 0
ExitsKeepSafe = (p : Program) → IsAccepted p → (owed : Known) (event : Event)
    (before : TimedPart) (content : TimedContent) (after : TimedPart)
    → Gives p event before content after → IsSafe p owed before.part → IsSafe p owed after.part

-- so does the return of the procedure that sets the resources up, which leaves the content of each
unfoldable pub SettlingKeepsSafe : Type 0
SettlingKeepsSafe = (p : Program) → IsAccepted p → (owed : Known) (event : Event)
    (before : TimedPart) (contents : List TimedContent) (after : TimedPart)
    → GivesEach p event before contents after → IsSafe p owed before.part
    → IsSafe p owed after.part

-- a fork that lends each child just its share leaves a parent that waits and two children, all safe
unfoldable pub ForksKeepSafe : Type 0
ForksKeepSafe = (p : Program) → IsAccepted p → (owed : Known) (event : Event)
    (before after one two : TimedPart) → Keeps before → Lends p event before after one two
    → IsOf p before.part → IsSafe p owed before.part
    → AreSafe p owed after.part one.part two.part

-- the join of two children that have ended, each with what it owes, leaves a safe parent
unfoldable pub JoinsKeepSafe : Type 0
JoinsKeepSafe = (p : Program) → IsAccepted p → (owed left right : Known) (event : Event)
    (before one two after : TimedPart) → Joins p event before one two after
    → IsSafeWaiting p owed left right before.part → IsSafe p left one.part
    → IsSafe p right two.part → IsSafe p owed after.part

-- so a task that goes on keeps its part safe, whatever it does
unfoldable pub GoingKeepsSafe : Type 0
GoingKeepsSafe = (p : Program) → IsAccepted p → (owed : Known) (before after : TimedPart)
    → GoesTo p before after → IsSafe p owed before.part → IsSafe p owed after.part
