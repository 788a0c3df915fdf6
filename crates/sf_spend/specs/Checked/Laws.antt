-- Laws of numbered lists of events and of what a task was given and has used in them.
-- What a task has used and what is left to it are what it was given: an invariant of counting.
use Rattle.std.specs.Prelude.{◌≡◌, ℕ, List, [], ◌++◌, None, Some}
use Rattle.sf_base.specs.declared.ids.ProcId.{ProcId}
use Rattle.sf_base.specs.HeapStore.{Heap, Store}
use Rattle.sf_core.specs.Machine.Config.{Path, Config, Task, task_at}
use Rattle.sf_core.specs.Machine.Enabled.{HasEnded}
use Rattle.sf_core.specs.Machine.Numbered.{NumberedFrom}
use Rattle.sf_core.specs.Machine.SpentSteps.{NeedsNoChild, Spending, SpendingFrom, SpentSteps}
use Rattle.sf_core.specs.Machine.Start.{Start}
use Rattle.sf_core.specs.Machine.Step.{Event}
use Rattle.sf_core.specs.Machine.Supplies.{Supply, has, supply_at, units}
use Rattle.sf_core.specs.Program.Syntax.{Program}
use Rattle.sf_spend.specs.Counting.{CountedFrom, IsBalanced, IsDividedAs}

-- each numbered list is a counted one, for each task and whatever it was given and had used before
unfoldable pub NumberedListsAreCounted : Type 0
NumberedListsAreCounted = (p : Program) (path : Path) (c d : Config) (supply rest : Supply)
    (s : Spending) (events : List Event) → NumberedFrom p c supply events d rest
    → (last : Spending) × CountedFrom p path c supply s events d rest last

-- a counted list is numbered, and what the task has spent in it is that
unfoldable pub CountedListsAreNumbered : Type 0
CountedListsAreNumbered = (p : Program) (path : Path) (c d : Config) (supply rest : Supply)
    (s last : Spending) (events : List Event)
    → CountedFrom p path c supply s events d rest last
    → NumberedFrom p c supply events d rest × SpendingFrom p path c supply s events d last

-- and a list in which the task has spent something is a counted one
unfoldable pub SpendingListsAreCounted : Type 0
SpendingListsAreCounted = (p : Program) (path : Path) (c d : Config) (supply : Supply)
    (s last : Spending) (events : List Event) → SpendingFrom p path c supply s events d last
    → (rest : Supply) × CountedFrom p path c supply s events d rest last

-- what a counted list leaves is one thing
unfoldable pub CountsAreUnique : Type 0
CountsAreUnique = (p : Program) (path : Path) (c d e : Config) (supply rest other : Supply)
    (s last also : Spending) (events : List Event)
    → CountedFrom p path c supply s events d rest last
    → CountedFrom p path c supply s events e other also
    → (d ≡ e) × (rest ≡ other) × (last ≡ also)

-- a counted list after another is one
unfoldable pub CountsCompose : Type 0
CountsCompose = (p : Program) (path : Path) (c d e : Config) (supply between rest : Supply)
    (s middle last : Spending) (events more : List Event)
    → CountedFrom p path c supply s events d between middle
    → CountedFrom p path d between middle more e rest last
    → CountedFrom p path c supply s (events ++ more) e rest last

-- a counted list is one up to each place, and from there
unfoldable pub CountsDivide : Type 0
CountsDivide = (p : Program) (path : Path) (c e : Config) (supply rest : Supply)
    (s last : Spending) (events more : List Event)
    → CountedFrom p path c supply s (events ++ more) e rest last
    → (d : Config) × (between : Supply) × (middle : Spending)
    × CountedFrom p path c supply s events d between middle
    × CountedFrom p path d between middle more e rest last

-- units that are divided as the tasks are stay so
unfoldable pub SuppliesStayDivided : Type 0
SuppliesStayDivided = (p : Program) (c d : Config) (supply rest : Supply) (events : List Event)
    → NumberedFrom p c supply events d rest
    → IsDividedAs c.tasks supply → IsDividedAs d.tasks rest

-- at a start they are: there is the entry's task alone, with all of them
unfoldable pub StartsAreDivided : Type 0
StartsAreDivided = (p : Program) (f : ProcId) (store : Store) (heap : Heap) (c : Config)
    (us : List ℕ) → Start p f store heap c → IsDividedAs c.tasks (has us)

-- and then what is balanced stays so
unfoldable pub CountsStayBalanced : Type 0
CountsStayBalanced = (p : Program) (path : Path) (c d : Config) (supply rest : Supply)
    (s last : Spending) (events : List Event)
    → CountedFrom p path c supply s events d rest last
    → IsDividedAs c.tasks supply → IsBalanced path supply s → IsBalanced path rest last

-- of a task that comes up in the list, it doesn't matter what was given and used before
unfoldable pub CountsBeginAnew : Type 0
CountsBeginAnew = (p : Program) (path : Path) (c d : Config) (supply rest own : Supply)
    (s last other : Spending) (events : List Event)
    → CountedFrom p path c supply s events d rest last
    → supply_at path supply ≡ None → supply_at path rest ≡ Some own
    → CountedFrom p path c supply other events d rest last

-- what the task at the path was given and has used, where a numbered list began with so many units
-- for the entry: it is balanced, and of the entry's task that number was given
pub record IsSoFar (count : ℕ) (path : Path) (supply : Supply) (s : Spending) : Type 0 where
  pub balanced : IsBalanced path supply s
  pub entry : path ≡ [] → s.given ≡ count

-- where a numbered list from the start leads to a configuration from which a task comes to have
-- used what it was given, and would go on then, it has spent its steps
unfoldable pub SpentTasksHaveSpentSteps : Type 0
SpentTasksHaveSpentSteps = (p : Program) (start c d : Config) (base count used : ℕ) (path : Path)
    (supply : Supply) (before events : List Event) (task : Task)
    → IsDividedAs start.tasks (has (units base count))
    → NumberedFrom p start (has (units base count)) before c supply
    → ((s : Spending) → IsSoFar count path supply s
    → SpendingFrom p path c supply s events d (record { given = used; used = used }))
    → task_at path d.tasks ≡ Some task → (HasEnded path task → ⊥) → NeedsNoChild task
    → SpentSteps p start base count path used
