-- The events of a part: steps of the machine on what the part has, each with the part's next unit
-- as its number.
-- O'Hearn (2007), Brookes (2007): a task acts on what it owns, and what is owned crosses at
-- regions, forks and joins.
use Rattle.std.specs.Prelude.{◌≡◌, ◌⊎◌, ◌<◌, ℕ, suc, max, true, false, List, [], ◌∷◌, ◌++◌, length, Some}
use Rattle.std.specs.List.{AllByRecursion}
use Rattle.sf_base.specs.declared.ids.ResId.{ResId}
use Rattle.sf_base.specs.declared.place.Place.{Place}
use Rattle.sf_base.specs.declared.path.Turn.{Turn}
use Rattle.sf_base.specs.declared.path.Turn.TheVariants.{Left as left, Right as right}
use Rattle.sf_base.specs.declared.value.Value.{Value}
use Rattle.sf_base.specs.HeapStore.{Slot, Splits}
use Rattle.sf_core.specs.declared.assertion.Test.{Test}
use Rattle.sf_core.specs.declared.command.Expr.{Expr}
use Rattle.sf_core.specs.Machine.Config.{Item, Fixed, Frame, Task, runs, waits, Common}
use Rattle.sf_core.specs.Machine.Enabled.{variable, Reads, Writes}
use Rattle.sf_core.specs.Machine.Next.{Next, does, leaves, returns, joins, nothing, next}
use Rattle.sf_core.specs.Machine.Step.{Event, TaskStep}
use Rattle.sf_core.specs.Machine.Supplies.{has, lent, NextTakes}
use Rattle.sf_core.specs.Machine.Whole.{running, stand_of, Part, Content, holders, numbers, IsUnion}
use Rattle.sf_core.specs.Program.Init.{sets_up}
use Rattle.sf_core.specs.Program.Syntax.{Call, Command, fork, with, Block, Program}
use Rattle.sf_part.specs.Timed.{TimedPart, TimedContent, Notes}

-- what is shared, as a part sees it: its own cells and slots, and the resources that it holds
-- itself
abbrev pub common_of : Part → Common
common_of a = record { heap = a.heap; store = a.store; held = holders a }

-- the part has the slots that are read or written next
abbrev pub HasSlots : Part → Next → Type 0
HasSlots a what = (slot : Slot)
    → Reads a.store what (variable slot) ⊎ Writes a.store what (variable slot)
    → (v : Value) × (a.store slot ≡ Some v)

-- a step of the machine on what a part has, where its task goes from the one to the other
pub record Acts (p : Program) (event : Event) (before after : Part) (from to : Task) : Type 0 where
  pub own : event.task ≡ before.task
  pub task : after.task ≡ before.task
  pub from_is : before.stand ≡ stand_of from
  pub to_is : after.stand ≡ stand_of to
  pub steps : TaskStep p event (common_of before) from (common_of after) to
  pub slots : HasSlots before (next from)

-- a command that is neither a region nor a parallel call
abbrev pub IsLocal : Command → Type 0
IsLocal (fork place c d) = ⊥
IsLocal (with place r test body) = ⊥
IsLocal c = Unit {0}

-- what a task does next is its own affair: such a command, or the return of a procedure that
-- doesn't set the resources up
abbrev pub IsPrivate : Program → Next → Type 0
IsPrivate p (does f below c rest) = IsLocal c
IsPrivate p (leaves f below r rest) = ⊥
IsPrivate p (returns f below) = sets_up p f.procedure ≡ false
IsPrivate p (joins frames one two) = ⊥
IsPrivate p nothing = ⊥

-- the event's number is the next unit of the one part, and those after it are left in the other
abbrev pub Spends : Event → Next → (before after : Part) → Type 0
Spends event what before after = NextTakes event what (has (numbers before.supply))
    (has (numbers after.supply))

-- Private: an event that is the task's own affair
pub record Private (p : Program) (event : Event) (before after : TimedPart) : Type 0 where
  pub frames : List Frame
  pub kept : List Frame
  pub private : IsPrivate p (next (runs frames))
  pub acts : Acts p event before.part after.part (runs frames) (runs kept)
  pub spends : Spends event (next (runs frames)) before.part after.part
  pub notes : Notes before.clock before.log event before after

-- Privates: private events, one after the other
abbrev pub Privates : Program → TimedPart → List Event → TimedPart → Type 0
Privates p a [] b = b ≡ a
Privates p a (event ∷ events) b = (between : TimedPart) × Private p event a between
    × Privates p between events b

-- the part with a content in hand: the content's cells and slots beside its own
pub record HasInHand (part : Part) (content : Content) (both : Part) : Type 0 where
  pub task : both.task ≡ part.task
  pub stand : both.stand ≡ part.stand
  pub holds : both.holds ≡ part.holds
  pub supply : both.supply ≡ part.supply
  pub heap : Splits both.heap part.heap content.heap
  pub store : Splits both.store part.store content.store

-- the next step is the entry of a region of that resource
abbrev pub IsEntry : Next → ResId → Type 0
IsEntry what r = (f : Fixed) × (below : List Frame) × (place : Place) × (test : Test Expr)
    × (body : Block) × (rest : List Item) × (what ≡ does f below (with place r test body) rest)

-- the next step is the exit from one
abbrev pub IsExit : Next → ResId → Type 0
IsExit what r = (f : Fixed) × (below : List Frame) × (rest : List Item)
    × (what ≡ leaves f below r rest)

-- Enters: the entry of a region, with the content of its resource in hand
pub record Enters (p : Program) (event : Event) (before : TimedPart) (content : TimedContent)
    (after : TimedPart) :
    Type 0 where
  pub both : Part
  pub hand : HasInHand before.part content.content both
  pub frames : List Frame
  pub kept : List Frame
  pub entry : IsEntry (next (runs frames)) content.content.resource
  pub acts : Acts p event both after.part (runs frames) (runs kept)
  pub spends : Spends event (next (runs frames)) before.part after.part
  pub notes : Notes (max before.clock content.stamp) before.log event before after

-- Exits: the exit from a region, which leaves a part with the content of its resource in hand
pub record Exits (p : Program) (event : Event) (before : TimedPart) (content : TimedContent)
    (after : TimedPart) :
    Type 0 where
  pub both : Part
  pub hand : HasInHand after.part content.content both
  pub frames : List Frame
  pub kept : List Frame
  pub exit : IsExit (next (runs frames)) content.content.resource
  pub acts : Acts p event before.part both (runs frames) (runs kept)
  pub spends : Spends event (next (runs frames)) before.part both
  pub notes : Notes before.clock before.log event before after
  pub stamp : content.stamp ≡ after.clock

-- the next step is the return of the procedure that sets the resources up
abbrev pub IsSettling : Program → Next → Type 0
IsSettling p (does f below c rest) = ⊥
IsSettling p (leaves f below r rest) = ⊥
IsSettling p (returns f below) = sets_up p f.procedure ≡ true
IsSettling p (joins frames one two) = ⊥
IsSettling p nothing = ⊥

-- the contents are those of the resources from that number on, in their order
abbrev pub AreFrom : ℕ → List TimedContent → Type 0
AreFrom number [] = Unit {0}
AreFrom number (k ∷ contents) = (k.content.resource.0 ≡ number) × AreFrom (suc number) contents

-- the part hands these contents out, one after the other, and the rest is left
abbrev pub HandsOut : Part → List TimedContent → Part → Type 0
HandsOut all [] rest = rest ≡ all
HandsOut all (k ∷ contents) rest = (less : Part) × HasInHand less k.content all
    × HandsOut less contents rest

-- Settles: that return, by a task that holds all resources of the program, which leaves the content
-- of each
pub record Settles (p : Program) (event : Event) (before : TimedPart) (contents : List TimedContent)
    (after : TimedPart) : Type 0 where
  pub all : Part
  pub frames : List Frame
  pub kept : List Frame
  pub settling : IsSettling p (next (runs frames))
  pub holds : (r : ResId) → r.0 < length p.resources → before.part.holds r ≡ true
  pub acts : Acts p event before.part all (runs frames) (runs kept)
  pub in_order : AreFrom 0 contents
  pub each : length contents ≡ length p.resources
  pub out : HandsOut all contents after.part
  pub spends : Spends event (next (runs frames)) before.part all
  pub notes : Notes before.clock before.log event before after
  pub stamps : AllByRecursion (λ (k : TimedContent). k.stamp ≡ after.clock) contents

-- a part's task is the child of another's at that turn, and holds no resource
pub record IsChild (parent : Part) (turn : Turn) (child : Part) : Type 0 where
  pub task : child.task ≡ parent.task ++ turn ∷ []
  pub holds : child.holds ≡ (λ r. false)

-- the parent's part with all that its two children have: their cells and slots beside its own
pub record HasChildren (parent one two all : Part) : Type 0 where
  pub task : all.task ≡ parent.task
  pub stand : all.stand ≡ parent.stand
  pub holds : all.holds ≡ parent.holds
  pub heap : IsUnion all.heap (parent.heap ∷ one.heap ∷ two.heap ∷ [])
  pub store : IsUnion all.store (parent.store ∷ one.store ∷ two.store ∷ [])
  pub left_one : IsChild parent left one
  pub right_one : IsChild parent right two

-- the next step is a parallel call
abbrev pub IsFork : Next → Type 0
IsFork what = (f : Fixed) × (below : List Frame) × (place : Place) × (one : Call) × (two : Call)
    × (rest : List Item)
    × (what ≡ does f below (fork place one two) rest)

-- a child that a fork made begins: it runs these frames, with the parent's clock, no log yet, and
-- all its units to spend
pub record Begins (parent : TimedPart) (frames : List Frame) (child : TimedPart) : Type 0 where
  pub stand : child.part.stand ≡ running frames
  pub clock : child.clock ≡ parent.clock
  pub keeps : child.keeps ≡ parent.keeps
  pub log : child.log ≡ []
  pub given : child.given ≡ length (numbers child.part.supply)

-- Forks: a parallel call, after which the parent waits without units, and each child has its half
-- of what was left
pub record Forks (p : Program) (event : Event) (before after one two : TimedPart) : Type 0 where
  pub all : Part
  pub frames : List Frame
  pub kept : List Frame
  pub left_frames : List Frame
  pub right_frames : List Frame
  pub fork : IsFork (next (runs frames))
  pub acts : Acts p event before.part all (runs frames)
      (waits kept (runs left_frames) (runs right_frames))
  pub children : HasChildren after.part one.part two.part all
  pub left_begins : Begins after left_frames one
  pub right_begins : Begins after right_frames two
  pub spends : NextTakes event (next (runs frames)) (has (numbers before.part.supply))
      (lent (has (numbers one.part.supply)) (has (numbers two.part.supply)))
  pub none_left : numbers after.part.supply ≡ []
  pub notes : Notes before.clock before.log event before after

-- Joins: the join of two children that have ended, with all that they have, what is left of their
-- units among it
pub record Joins (p : Program) (event : Event) (before one two after : TimedPart) : Type 0 where
  pub all : Part
  pub frames : List Frame
  pub kept : List Frame
  pub children : HasChildren before.part one.part two.part all
  pub left_keeps : one.keeps ≡ before.keeps
  pub right_keeps : two.keeps ≡ before.keeps
  pub left_ended : one.part.stand ≡ running []
  pub right_ended : two.part.stand ≡ running []
  pub acts : Acts p event all after.part (waits frames (runs []) (runs [])) (runs kept)
  pub spends : NextTakes event (next (waits frames (runs []) (runs [])))
      (lent (has (numbers one.part.supply)) (has (numbers two.part.supply)))
      (has (numbers after.part.supply))
  pub notes : Notes (max before.clock (max one.clock two.clock))
      (before.log ++ (one.log ++ two.log)) event before after
