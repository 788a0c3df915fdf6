-- What a part tells of the whole that it belongs to: its task, the resources that it holds, and the
-- conditions that it sees.
-- O'Hearn (2007): what a task owns nobody else changes, so what it sees there is so.
use Rattle.std.specs.Prelude.{◌≡◌, ◌<◌, ◌↔◌, ℕ, true, false, List, [], ◌∷◌, ◌++◌, length, Some, None, Contains}
use Rattle.sf_base.specs.declared.ids.ProcId.{ProcId}
use Rattle.sf_base.specs.declared.ids.ResId.{ResId}
use Rattle.sf_base.specs.declared.ids.Var.{Var}
use Rattle.sf_base.specs.declared.path.Turn.TheVariants.{Left as left, Right as right}
use Rattle.sf_base.specs.declared.value.Value.{Value}
use Rattle.sf_base.specs.HeapStore.{Heap, Slot, Store, own}
use Rattle.sf_calls.specs.FirstBreach.{Conditions}
use Rattle.sf_core.specs.declared.assertion.Test.{Test}
use Rattle.sf_core.specs.declared.command.Expr.{Expr}
use Rattle.sf_core.specs.Assertions.Sat.{IsTrueOf}
use Rattle.sf_core.specs.Machine.Config.{Frame, Task, runs, waits, Path, Config, evaluate, task_at}
use Rattle.sf_core.specs.Machine.Enabled.{variable, ReadsTest}
use Rattle.sf_core.specs.Machine.Reach.{Reach}
use Rattle.sf_core.specs.Machine.Start.{Start}
use Rattle.sf_core.specs.Machine.Step.{Event}
use Rattle.sf_core.specs.Machine.Whole.{running, waiting, Part, Content, numbers, Whole}
use Rattle.sf_core.specs.Program.Formed.{IsFormed}
use Rattle.sf_core.specs.Program.Syntax.{Program}
use Rattle.sf_part.specs.Guards.{IsAtRegion}
use Rattle.sf_part.specs.Of.{IsOf}
use Rattle.sf_part.specs.Steps.{HasChildren, HasInHand, IsChild}

-- the task of a part that runs runs the part's frames
unfoldable pub RunningPartsRun : Type 0
RunningPartsRun = (before after : List Part) (a : Part) (contents : List Content) (c : Config)
    (frames : List Frame)
    → Whole (before ++ a ∷ after) contents c → a.stand ≡ running frames
    → task_at a.task c.tasks ≡ Some (runs frames)

-- the task of a part that waits waits with the part's frames
unfoldable pub WaitingPartsWait : Type 0
WaitingPartsWait = (before after : List Part) (a : Part) (contents : List Content) (c : Config)
    (frames : List Frame)
    → Whole (before ++ a ∷ after) contents c → a.stand ≡ waiting frames
    → (one : Task) × (two : Task) × (task_at a.task c.tasks ≡ Some (waits frames one two))

-- beside the part of the entry's task, where that runs, there is no other
unfoldable pub RunningEntriesAreAlone : Type 0
RunningEntriesAreAlone = (a : Part) (others : List Part) (contents : List Content) (c : Config)
    (frames : List Frame)
    → Whole (a ∷ others) contents c → a.task ≡ [] → a.stand ≡ running frames → others ≡ []

-- what a part holds is held by its task
unfoldable pub PartsHold : Type 0
PartsHold = (before after : List Part) (a : Part) (contents : List Content) (c : Config) (r : ResId)
    → Whole (before ++ a ∷ after) contents c → a.holds r ≡ true → c.common.held r ≡ Some a.task

-- a task at a region, whose part is the program's, isn't inside of one of that resource, which is
-- the program's
unfoldable pub RegionsAreOutside : Type 0
RegionsAreOutside = (p : Program) (a : Part) (r : ResId) → IsFormed p → Conditions p → IsOf p a
    → IsAtRegion a r → (r.0 < length p.resources) × (a.holds r ≡ false)

-- a condition whose variables a part with a content in hand has is true there exactly where it is
-- true of the whole
unfoldable pub ConditionsAreSeenAlike : Type 0
ConditionsAreSeenAlike = (before after : List Part) (a both : Part) (earlier later : List Content)
    (k : Content)
    (c : Config) (slots : Var → Slot) (test : Test Expr)
    → Whole (before ++ a ∷ after) (earlier ++ k ∷ later) c → HasInHand a k both
    → ((slot : Slot) → ReadsTest slots test (variable slot) → (v : Value)
    × (both.store slot ≡ Some v))
    → IsTrueOf (evaluate slots both.store) test ↔ IsTrueOf (evaluate slots c.common.store) test

-- nothing but resources of the program is ever held
unfoldable pub HeldAreOfTheProgram : Type 0
HeldAreOfTheProgram = (p : Program) (f : ProcId) (store : Store) (heap : Heap) (start c : Config)
    (events : List Event) → IsFormed p → Start p f store heap start → Reach p start events c
    → (r : ResId) (path : Path) → c.common.held r ≡ Some path → r.0 < length p.resources

-- a part and a content of one whole have nothing in common, so the part may have it in hand; and
-- no unit of the part is a location of the content, or the number of a slot of it
unfoldable pub ContentsAreApart : Type 0
ContentsAreApart = (before after : List Part) (a : Part) (earlier later : List Content)
    (k : Content)
    (c : Config) → Whole (before ++ a ∷ after) (earlier ++ k ∷ later) c
    → ((both : Part) × HasInHand a k both)
    × ((number : ℕ) → Contains (numbers a.supply) number
    → (k.heap number ≡ None) × ((index : ℕ) → k.store (own number index) ≡ None))

-- the parts of a parent and of its children in one whole have nothing in common, so the parent may
-- have all; no unit is in both children's supplies, and none is a location of the three, or the
-- number of a slot of them
unfoldable pub ChildrenAreApart : Type 0
ChildrenAreApart = (before after : List Part) (a one two : Part) (contents : List Content)
    (c : Config)
    → Whole (before ++ a ∷ one ∷ two ∷ after) contents c → IsChild a left one → IsChild a right two
    → (all : Part) × HasChildren a one two all
    × ((number : ℕ) → Contains (numbers one.supply) number → Contains (numbers two.supply) number
    → ⊥)
    × ((number : ℕ) → Contains (numbers one.supply ++ numbers two.supply) number
    → (all.heap number ≡ None) × ((index : ℕ) → all.store (own number index) ≡ None))
