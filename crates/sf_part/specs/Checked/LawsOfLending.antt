-- A task never gives up the variables that it was lent at the fork that made it, so its parent has
-- all of its own again at the join.
-- O'Hearn (2007): what the parallel rule splits it puts together again.
use Rattle.std.specs.Prelude.{Bool}
use Rattle.sf_base.specs.HeapStore.{Slot}
use Rattle.sf_core.specs.Machine.Step.{Event}
use Rattle.sf_core.specs.Program.Syntax.{Program}
use Rattle.sf_part.specs.Borrowed.{HasJustVariables, StillHas, in_both}
use Rattle.sf_part.specs.Contents.{IsContentIn, content_of}
use Rattle.sf_part.specs.declared.content.Content.{Content}
use Rattle.sf_part.specs.Given.{Gives}
use Rattle.sf_part.specs.Joining.{GoesOnIn}
use Rattle.sf_part.specs.Keeps.{Keeps}
use Rattle.sf_part.specs.Of.{IsOf}
use Rattle.sf_part.specs.Steps.{Enters, Forks, Joins, Private}
use Rattle.sf_part.specs.Timed.{TimedContent, TimedPart}

-- at a fork each child is lent what it has then of its parent's variables
unfoldable pub ForksLend : Type 0
ForksLend = (p : Program) (event : Event) (a b one two : TimedPart) → Forks p event a b one two
    → Keeps a
    → StillHas p (in_both a.part.store one.part.store) one.part
    × StillHas p (in_both a.part.store two.part.store) two.part

-- a private event gives up none of what was lent
unfoldable pub PrivateEventsKeepLent : Type 0
PrivateEventsKeepLent = (p : Program) (event : Event) (a b : TimedPart) (lent : Slot → Bool)
    → Private p event a b → Keeps a → StillHas p lent a.part → StillHas p lent b.part

-- nor does the entry of a region, with just the variables of its resource
unfoldable pub EntriesKeepLent : Type 0
EntriesKeepLent = (p : Program) (event : Event) (a b : TimedPart) (k : TimedContent)
    (lent : Slot → Bool) → Enters p event a k b → HasJustVariables p k.content
    → StillHas p lent a.part → StillHas p lent b.part

-- which a content of the program has
unfoldable pub ContentsAreTheirVariables : Type 0
ContentsAreTheirVariables = (p : Program) (k : Content) → IsContentIn p k
    → HasJustVariables p (content_of k).content

-- nor does the exit, which gives up just these
unfoldable pub ExitsKeepLent : Type 0
ExitsKeepLent = (p : Program) (event : Event) (a b : TimedPart) (k : TimedContent)
    (lent : Slot → Bool) → Gives p event a k b → StillHas p lent a.part → StillHas p lent b.part

-- a fork lends them on, and at the join they are back, where the children still have what they were
-- lent
unfoldable pub JoinsBringBack : Type 0
JoinsBringBack = (p : Program) (event later : Event) (a b one two ended last c : TimedPart)
    (lent : Slot → Bool) → Forks p event a b one two → Keeps a
    → StillHas p lent a.part → StillHas p (in_both a.part.store one.part.store) ended.part
    → StillHas p (in_both a.part.store two.part.store) last.part → Joins p later b ended last c
    → StillHas p lent c.part

-- and the parent can go on with what it has and its children have
unfoldable pub ParentsGoOn : Type 0
ParentsGoOn = (p : Program) (event : Event) (a b one two ended last : TimedPart)
    → Forks p event a b one two → Keeps a → IsOf p a.part
    → StillHas p (in_both a.part.store one.part.store) ended.part
    → StillHas p (in_both a.part.store two.part.store) last.part
    → GoesOnIn p b.part ended.part last.part
