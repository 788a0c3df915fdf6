-- Examples of the machine's definitions: small programs, their runs, and configurations that are bad or not.
-- The commands are those of Berdine, Calcagno, O'Hearn, "Smallfoot" (2005); races as in O'Hearn (2007).
use Rattle.std.specs.Prelude.{◌≡◌, ◌≢◌, ◌⊎◌, ◌↔◌, ℕ, false, ◌+◌, ◌-◌, ◌==◌, pos, cond, List, [], ◌∷◌, length, codes, Option, Some, None}
use Rattle.sf_base.specs.declared.ids.FieldId.{FieldId}
use Rattle.sf_base.specs.declared.ids.ResId.{ResId}
use Rattle.sf_base.specs.declared.ids.Var.{Var}
use Rattle.sf_base.specs.declared.ids.Var.TheVariants.{Own, Shared}
use Rattle.sf_base.specs.declared.path.Turn.TheVariants.{Left as left, Right as right}
use Rattle.sf_base.specs.declared.place.Place.{Place}
use Rattle.sf_base.specs.declared.value.Value.{Value}
use Rattle.sf_base.specs.declared.value.Value.TheVariants.{Nil as nil, Int as int, Loc as loc}
use Rattle.sf_core.specs.declared.assertion.Operand.TheVariants.{Known}
use Rattle.sf_core.specs.declared.assertion.Test.TheVariants.{True, Equal}
use Rattle.sf_core.specs.declared.command.Expr.{Expr}
use Rattle.sf_core.specs.declared.command.Expr.TheVariants.{Var as Variable, Nil, Int}
use Rattle.sf_core.specs.declared.command.Occurrence.{Occurrence}
use Rattle.sf_core.specs.Machine.Bad.{Bad}
use Rattle.sf_core.specs.Machine.Config.{Item, command, Fixed, Frame, Task, runs, waits, Path, Common, Config, task_at, adds}
use Rattle.sf_core.specs.Machine.Enabled.{HasEnded, IsEnabled}
use Rattle.sf_core.specs.Machine.Good.{Good}
use Rattle.sf_base.specs.HeapStore.{Cell, put_field, Heap, IsEmpty, IsOne, Slot, shared, own, same_slot, Store}
use Rattle.sf_core.specs.Machine.Reach.{Reach}
use Rattle.sf_core.specs.Machine.Start.{Start, settled, initial_config, entry_frame, entry_slot}
use Rattle.sf_core.specs.Machine.Step.{Event, Step, room_for, slots_of, task_with}
use Rattle.sf_core.specs.Program.Syntax.{points, level, none, also, Call, assign, look_up, mutate, new, dispose, if, while, call, fork, with, Block, done, then, Assertion, Procedure, Program, Resource}

-- a place in the text, which no definition looks at
abbrev pub here : Place
here = record { line = 1; column = 1 }

-- the first field
abbrev pub hd : FieldId
hd = record { 0 = 0 }

-- the only resource
abbrev pub lock : ResId
lock = record { 0 = 0 }

-- the procedure's own variable of that number, with its place in the text
abbrev pub at_own : ℕ → Occurrence
at_own i = record { var = Own i; place = here }

-- the procedure's own variable of that number, as an expression
abbrev pub own_one : ℕ → Expr
own_one i = Variable (at_own i)

-- nothing: the empty heap
abbrev pub emp : Assertion
emp = record { names = []; level = level (record { first = 0; count = 0 }) none }

-- one cell, where that expression says
abbrev pub one_cell_at : Expr → Assertion
one_cell_at x = record {
  names = [];
  level = level (record { first = 0; count = 0 })
      (also (points here (Known x) []) none);
}

-- one cell at the procedure's first variable
abbrev pub one_cell : Assertion
one_cell = one_cell_at (own_one 0)

-- a procedure with that contract and body, of these variables
abbrev pub procedure : (names : List (List ℕ)) (references values : ℕ) → Assertion → Block → Procedure
procedure names references values contract body = record {
  name = codes "f";
  place = here;
  names = names;
  references = references;
  values = values;
  locals = length names - (references + values);
  pre = contract;
  post = contract;
  body = body;
  end = here;
}

-- a call of that procedure with these values and no references
abbrev pub calls : ℕ → List Expr → Call
calls f values = record { callee = record { 0 = f }; place = here; references = []; values = values }

-- main(c;) [c |->] { set(; c); } [c |->]
abbrev pub main : Procedure
main = procedure (codes "c" ∷ []) 1 0 one_cell (then (call here (calls 1 (own_one 0 ∷ []))) done)

-- set(; x) [x |->] { x->hd = 7; } [x |->]
abbrev pub set : Procedure
set = procedure (codes "x" ∷ []) 0 1 one_cell (then (mutate here (own_one 0) hd (Int (pos 7))) done)

-- both, with no resource
abbrev pub setting : Program
setting = record { fields = codes "hd" ∷ []; resources = []; procedures = main ∷ set ∷ [] }

-- one cell, at location 1
abbrev pub one_at : Cell → Heap
one_at k = λ a. cond (a == 1) (Some k) None

-- the entry's first variable has that value, and there are no others
abbrev pub one_in : Value → Store
one_in v = λ slot. cond (same_slot slot (own 0 0)) (Some v) None

-- an event of the task at that path with that number, which makes no cell
abbrev pub event : Path → ℕ → Event
event path number = record { task = path; number = number; at = 0; fields = λ f. nil }

-- `main` starts at the one cell
abbrev pub setting_start : Cell → Config
setting_start k = initial_config settled setting (record { 0 = 0 }) main (one_in (loc 1)) (one_at k)

-- that is a start
unfoldable pub SettingStarts : Type 0
SettingStarts = (k : Cell) → Start setting (record { 0 = 0 }) (one_in (loc 1)) (one_at k) (setting_start k)

-- what three events of it lead to: the field is set, the callee's slot is gone, the entry's is there, and the
-- entry has ended
pub record IsSet (k : Cell) (d : Config) : Type 0 where
  pub cell : d.common.heap 1 ≡ Some (put_field k 0 (int (pos 7)))
  pub gone : d.common.store (own 1 0) ≡ None
  pub stays : d.common.store (own 0 0) ≡ Some (loc 1)
  pub ended : HasEnded [] d.tasks

-- a call, a mutation in the callee's frame and the callee's return lead there, to a good configuration
unfoldable pub CallMutateReturn : Type 0
CallMutateReturn = (k : Cell) → (d : Config) × Reach setting (setting_start k)
    (event [] 1 ∷ event [] 2 ∷ event [] 3 ∷ []) d × IsSet k d × Good setting d

-- the slots of the variables of a child whose slots begin at that index of event 1
abbrev pub child_slots : ℕ → Var → Slot
child_slots first (Own i) = own 1 (first + i)
child_slots first (Shared r i) = shared r i

-- a child of a fork with two variables, from that index on
abbrev pub child : ℕ → Fixed
child first = record {
  procedure = record { 0 = 1 };
  slots = child_slots first;
  room = record { event = 1; first = first; count = 2 };
}

-- the entry's frame with nothing more to do
abbrev pub parent : Frame
parent = record {
  fixed = record {
    procedure = record { 0 = 0 };
    slots = child_slots 4;
    room = record { event = 0; first = 0; count = 0 };
  };
  todo = [];
}

-- two children with that still to do, the slots of the one from index 0 and those of the other from index 2
abbrev pub side_by_side : (this that : List Item) → Common → Config
side_by_side this that s = record {
  common = s;
  used = adds 1 (λ number. number == 0);
  tasks = waits (parent ∷ []) (runs (record { fixed = child 0; todo = this } ∷ []))
      (runs (record { fixed = child 2; todo = that } ∷ []));
}

-- each child's first variable is the location of the one cell, and the resource has that holder
abbrev pub at_one_cell : Cell → Option Path → Common
at_one_cell k holder = record {
  heap = one_at k;
  store = λ slot. cond (same_slot slot (own 1 0)) (Some (loc 1))
      (cond (same_slot slot (own 1 2)) (Some (loc 1)) None);
  held = λ r. holder;
}

-- x->hd = 7;
abbrev pub mutates : List Item
mutates = command (mutate here (own_one 0) hd (Int (pos 7))) ∷ []

-- y = x->hd;
abbrev pub looks_up : List Item
looks_up = command (look_up here (at_own 1) (own_one 0) hd) ∷ []

-- with lock when (true) { x->hd = 7; }
abbrev pub enters : List Item
enters = command (with here lock True (then (mutate here (own_one 0) hd (Int (pos 7))) done)) ∷ []

-- two mutations of one cell race
unfoldable pub TwoMutationsRace : Type 0
TwoMutationsRace = (k : Cell) → Bad (side_by_side mutates mutates (at_one_cell k None))

-- a mutation races with a look-up of the same cell, whoever comes first in the tree
unfoldable pub MutationAndLookUpRace : Type 0
MutationAndLookUpRace = (k : Cell) → Bad (side_by_side mutates looks_up (at_one_cell k None))
    × Bad (side_by_side looks_up mutates (at_one_cell k None))

-- two look-ups of one cell don't
unfoldable pub TwoLookUpsDoNotRace : Type 0
TwoLookUpsDoNotRace = (k : Cell) → Bad (side_by_side looks_up looks_up (at_one_cell k None)) → ⊥

-- nor do two entries of a free resource, though what is inside the regions would
unfoldable pub TwoEntriesDoNotRace : Type 0
TwoEntriesDoNotRace = (k : Cell) → Bad (side_by_side enters enters (at_one_cell k None)) → ⊥

-- while one task holds the resource, the other at its region isn't enabled, and the mutation of the holder is
-- no race
unfoldable pub HeldRegionsWait : Type 0
HeldRegionsWait = (k : Cell)
    → ((task : Task) → IsEnabled (side_by_side mutates enters (at_one_cell k (Some (left ∷ [])))) (right ∷ [])
    task → ⊥)
    × (Bad (side_by_side mutates enters (at_one_cell k (Some (left ∷ [])))) → ⊥)

-- one task, of one frame, with that still to do
abbrev pub alone : List Item → Common → Config
alone todo s = record {
  common = s;
  used = λ number. number == 0;
  tasks = runs (record { fixed = child 0; todo = todo } ∷ []);
}

-- a dispose at nil is bad in every heap and store
unfoldable pub DisposeAtNilIsBad : Type 0
DisposeAtNilIsBad = (s : Common) (rest : List Item) → Bad (alone (command (dispose here Nil) ∷ rest) s)

-- a `new` of that number at location 5
abbrev pub makes : ℕ → Event
makes number = record { task = []; number = number; at = 5; fields = λ f. nil }

-- x = new(); dispose(x); y = new();
abbrev pub makes_twice : List Item
makes_twice = command (new here (at_own 0)) ∷ command (dispose here (own_one 0))
    ∷ command (new here (at_own 1)) ∷ []

-- a location that was freed may come again: both variables end with the same location
unfoldable pub FreedLocationsComeAgain : Type 0
FreedLocationsComeAgain = (p : Program) (s : Common) → s.heap 5 ≡ None
    → (d : Config) × Reach p (alone makes_twice s) (makes 1 ∷ event [] 2 ∷ makes 3 ∷ []) d
    × (d.common.heap 5 ≡ Some (λ f. nil)) × (d.common.store (own 1 0) ≡ Some (loc 5))
    × (d.common.store (own 1 1) ≡ Some (loc 5))

-- forks() [] { skip() || skip(); } []
abbrev pub forks : Procedure
forks = procedure [] 0 0 emp (then (fork here (calls 1 []) (calls 1 [])) done)

-- skip() [] { } []
abbrev pub skip : Procedure
skip = procedure [] 0 0 emp done

-- both, with no resource
abbrev pub forking : Program
forking = record { fields = codes "hd" ∷ []; resources = []; procedures = forks ∷ skip ∷ [] }

-- `forks` starts with no variables and no cells
abbrev pub forking_start : Config
forking_start = initial_config settled forking (record { 0 = 0 }) forks (λ slot. None) (λ a. None)

-- the children of a fork may end in either order, and then the parent joins them and the entry has ended
unfoldable pub ChildrenEndInAnyOrder : Type 0
ChildrenEndInAnyOrder =
    ((d : Config) × Reach forking forking_start (event [] 1 ∷ event (left ∷ []) 2 ∷ event (right ∷ []) 3
    ∷ event [] 4 ∷ []) d × HasEnded [] d.tasks)
    × ((d : Config) × Reach forking forking_start (event [] 1 ∷ event (right ∷ []) 2 ∷ event (left ∷ []) 3
    ∷ event [] 4 ∷ []) d × HasEnded [] d.tasks)

-- fill(x; v) [] { local w; x = v; } []
abbrev pub fill : Procedure
fill = procedure (codes "x" ∷ codes "v" ∷ codes "w" ∷ []) 1 1 emp
    (then (assign here (at_own 0) (own_one 1)) done)

-- a call of `fill` that passes that variable and that number
abbrev pub fills : (variable : ℕ) → ℕ → Call
fills variable number = record {
  callee = record { 0 = 1 };
  place = here;
  references = at_own variable ∷ [];
  values = Int (pos number) ∷ [];
}

-- pair(a, b;) [] { fill(a; 1) || fill(b; 2); } []
abbrev pub pair : Procedure
pair = procedure (codes "a" ∷ codes "b" ∷ []) 2 0 emp (then (fork here (fills 0 1) (fills 1 2)) done)

-- both, with no resource
abbrev pub filling : Program
filling = record { fields = codes "hd" ∷ []; resources = []; procedures = pair ∷ fill ∷ [] }

-- `pair` starts with its two variables at nil
abbrev pub filling_start : Config
filling_start = initial_config settled filling (record { 0 = 0 }) pair
    (λ slot. cond (same_slot slot (own 0 0)) (Some nil) (cond (same_slot slot (own 0 1)) (Some nil) None))
    (λ a. None)

-- the slots that the fork makes: value and local of the left child, then value and local of the right one
pub record IsForked (d : Config) : Type 0 where
  pub left_value : d.common.store (own 1 0) ≡ Some (int (pos 1))
  pub left_local : d.common.store (own 1 1) ≡ Some nil
  pub right_value : d.common.store (own 1 2) ≡ Some (int (pos 2))
  pub right_local : d.common.store (own 1 3) ≡ Some nil
  pub no_more : d.common.store (own 1 4) ≡ None

-- what is left of them at the end: nothing; and each child has set the caller's variable that its reference
-- names
pub record IsFilled (d : Config) : Type 0 where
  pub first : d.common.store (own 0 0) ≡ Some (int (pos 1))
  pub second : d.common.store (own 0 1) ≡ Some (int (pos 2))
  pub left_gone : (d.common.store (own 1 0) ≡ None) × (d.common.store (own 1 1) ≡ None)
  pub right_gone : (d.common.store (own 1 2) ≡ None) × (d.common.store (own 1 3) ≡ None)
  pub ended : HasEnded [] d.tasks

-- a fork binds values, locals and references of both children; they run side by side, return and are joined
unfoldable pub ChildrenFillReferences : Type 0
ChildrenFillReferences =
    (c : Config) × (d : Config) × Reach filling filling_start (event [] 1 ∷ []) c × IsForked c
    × Reach filling c (event (left ∷ []) 2 ∷ event (right ∷ []) 3 ∷ event (right ∷ []) 4 ∷ event (left ∷ []) 5
    ∷ event [] 6 ∷ []) d × IsFilled d

-- hands_on(x;) [] { fill(x; 3); } []
abbrev pub hands_on : Procedure
hands_on = procedure (codes "x" ∷ []) 1 0 emp (then (call here (fills 0 3)) done)

-- passes(a;) [] { hands_on(a;); } []
abbrev pub passes : Procedure
passes = procedure (codes "a" ∷ []) 1 0 emp (then (call here
    (record { callee = record { 0 = 2 }; place = here; references = at_own 0 ∷ []; values = [] })) done)

-- the three, with no resource
abbrev pub passing : Program
passing = record { fields = codes "hd" ∷ []; resources = []; procedures = passes ∷ fill ∷ hands_on ∷ [] }

-- `passes` starts with its variable at nil
abbrev pub passing_start : Config
passing_start = initial_config settled passing (record { 0 = 0 }) passes (one_in nil) (λ a. None)

-- a reference that is passed on as a reference is still the first caller's variable: two calls, an assignment
-- and two returns set it
unfoldable pub ReferencesArePassedOn : Type 0
ReferencesArePassedOn = (d : Config) × Reach passing passing_start
    (event [] 1 ∷ event [] 2 ∷ event [] 3 ∷ event [] 4 ∷ event [] 5 ∷ []) d
    × (d.common.store (own 0 0) ≡ Some (int (pos 3))) × HasEnded [] d.tasks

-- with lock when (true) { x = nil; } while (x == nil) [] { x = 7; }
abbrev pub locks_and_loops : List Item
locks_and_loops = command (with here lock True (then (assign here (at_own 0) Nil) done))
    ∷ command (while here (Equal (own_one 0) Nil) emp (then (assign here (at_own 0) (Int (pos 7))) done)) ∷ []

-- the task takes the free resource and gives it back; then it runs the loop's body once, and leaves the loop
unfoldable pub RegionThenLoop : Type 0
RegionThenLoop = (p : Program) (s : Common) → s.held lock ≡ None
    → (c : Config) × (d : Config) × Reach p (alone locks_and_loops s) (event [] 1 ∷ []) c
    × (c.common.held lock ≡ Some [])
    × Reach p c (event [] 2 ∷ event [] 3 ∷ event [] 4 ∷ event [] 5 ∷ event [] 6 ∷ []) d
    × (d.common.held lock ≡ None) × (d.common.store (own 1 0) ≡ Some (int (pos 7))) × HasEnded [] d.tasks

-- the entry's frame of `main` with nothing more to do
abbrev pub main_done : Frame
main_done = record { fixed = (entry_frame (record { 0 = 0 }) main).fixed; todo = [] }

-- `main` has ended with that heap, its variable at location 1
abbrev pub ended_with : Heap → Config
ended_with heap = record {
  common = record { heap = heap; store = one_in (loc 1); held = λ r. None };
  used = λ number. number == 0;
  tasks = runs (main_done ∷ []);
}

-- that is good exactly where the heap is the one cell of the postcondition: it isn't missing, and no other is
-- left
unfoldable pub EndedIsGoodWithItsCellAlone : Type 0
EndedIsGoodWithItsCellAlone = (heap : Heap) → Good setting (ended_with heap) ↔ ((k : Cell) × IsOne 1 k heap)

-- the frame of the call of `set` in `main`, whose event has number 1, with nothing more to do
abbrev pub set_done : Frame
set_done = record {
  fixed = record {
    procedure = record { 0 = 1 };
    slots = slots_of entry_slot (calls 1 (own_one 0 ∷ [])) (room_for set 1 0);
    room = room_for set 1 0;
  };
  todo = [];
}

-- `set` is at its return with that heap, its value and `main`'s variable at location 1
abbrev pub returning_with : Heap → Config
returning_with heap = record {
  common = record {
    heap = heap;
    store = λ slot. cond (same_slot slot (own 1 0)) (Some (loc 1))
        (one_in (loc 1) slot);
    held = λ r. None;
  };
  used = adds 1 (λ number. number == 0);
  tasks = runs (set_done ∷ main_done ∷ []);
}

-- that is good exactly where the heap has the cell of the callee's postcondition; it may have others, which
-- are the caller's
unfoldable pub ReturningIsGoodWithItsCell : Type 0
ReturningIsGoodWithItsCell = (heap : Heap) → Good setting (returning_with heap)
    ↔ ((k : Cell) × (heap 1 ≡ Some k))

-- two children of `set` are at their returns, the value of the one at that location and that of the other at the
-- other
abbrev pub returning_together : (location other : ℕ) → Heap → Config
returning_together location other heap = side_by_side [] [] (record {
  heap = heap;
  store = λ slot. cond (same_slot slot (own 1 0)) (Some (loc location))
      (cond (same_slot slot (own 1 2)) (Some (loc other)) None);
  held = λ r. None;
})

-- the heap has a cell at each of two locations, which differ
pub record HasTwoCells (location other : ℕ) (heap : Heap) : Type 0 where
  pub different : location ≢ other
  pub cell : Cell
  pub there : heap location ≡ Some cell
  pub other_cell : Cell
  pub other_there : heap other ≡ Some other_cell

-- that is good exactly where each has its own cell
unfoldable pub ReturningTogetherIsGoodWithTwoCells : Type 0
ReturningTogetherIsGoodWithTwoCells = (location other : ℕ) (heap : Heap)
    → Good setting (returning_together location other heap) ↔ HasTwoCells location other heap

-- so two children at their returns over one cell aren't good
unfoldable pub ReturningTogetherOverOneCellIsNotGood : Type 0
ReturningTogetherOverOneCellIsNotGood = (location : ℕ) (heap : Heap)
    → Good setting (returning_together location location heap) → ⊥

-- the only variable of the only resource, with its place in the text
abbrev pub at_shared : Occurrence
at_shared = record { var = Shared lock 0; place = here }

-- that variable, as an expression
abbrev pub shared_one : Expr
shared_one = Variable at_shared

-- resource lock (v) [v |->]
abbrev pub guarding : Resource
guarding = record { name = codes "lock"; variables = codes "v" ∷ []; invariant = one_cell_at shared_one }

-- takes() [v |->] { } [v |->]
abbrev pub takes : Procedure
takes = procedure [] 0 0 (one_cell_at shared_one) done

-- `skip` and `takes`, with that resource
abbrev pub guarded : Program
guarded = record { fields = codes "hd" ∷ []; resources = guarding ∷ []; procedures = skip ∷ takes ∷ [] }

-- the variable of the resource has that value, and there are no others
abbrev pub shared_in : Value → Store
shared_in v = λ slot. cond (same_slot slot (shared lock 0)) (Some v) None

-- the entry's frame of `skip` with nothing more to do
abbrev pub skip_done : Frame
skip_done = record { fixed = (entry_frame (record { 0 = 0 }) skip).fixed; todo = [] }

-- `skip` has ended with that heap, the resource free and its variable at location 1
abbrev pub skip_ended_with : Heap → Config
skip_ended_with heap = record {
  common = record { heap = heap; store = shared_in (loc 1); held = λ r. None };
  used = λ number. number == 0;
  tasks = runs (skip_done ∷ []);
}

-- that is good exactly where the heap is the one cell of the invariant, which is the resource's and so isn't
-- left over
unfoldable pub EndedIsGoodWithTheInvariantAlone : Type 0
EndedIsGoodWithTheInvariantAlone = (heap : Heap) → Good guarded (skip_ended_with heap)
    ↔ ((k : Cell) × IsOne 1 k heap)

-- `main` and `set`, with that resource
abbrev pub guarded_setting : Program
guarded_setting = record { fields = codes "hd" ∷ []; resources = guarding ∷ []; procedures = main ∷ set ∷ [] }

-- `set` is at its return, its value at that location, and the resource is free, its variable at the other
abbrev pub returning_beside : (location other : ℕ) → Heap → Config
returning_beside location other heap = record {
  common = record {
    heap = heap;
    store = λ slot. cond (same_slot slot (own 1 0)) (Some (loc location))
        (shared_in (loc other) slot);
    held = λ r. None;
  };
  used = adds 1 (λ number. number == 0);
  tasks = runs (set_done ∷ main_done ∷ []);
}

-- that is good exactly where the callee has its cell and the resource another
unfoldable pub ReturningBesideAResourceIsGoodWithTwoCells : Type 0
ReturningBesideAResourceIsGoodWithTwoCells = (location other : ℕ) (heap : Heap)
    → Good guarded_setting (returning_beside location other heap) ↔ HasTwoCells location other heap

-- so a callee at its return over the cell of a free resource isn't good
unfoldable pub ReturningOverAResourceIsNotGood : Type 0
ReturningOverAResourceIsNotGood = (location : ℕ) (heap : Heap)
    → Good guarded_setting (returning_beside location location heap) → ⊥

-- the heap has a cell where the variable of the resource says
pub record HasSharedCell (store : Store) (heap : Heap) : Type 0 where
  pub location : ℕ
  pub at : store (shared lock 0) ≡ Some (loc location)
  pub cell : Cell
  pub there : heap location ≡ Some cell

-- while the resource is free a good configuration has the cell of its invariant: at any moment of a run one
-- in which it is absent isn't good
unfoldable pub FreeResourcesHaveTheirCell : Type 0
FreeResourcesHaveTheirCell = (c : Config) → Good guarded c → c.common.held lock ≡ None
    → HasSharedCell c.common.store c.common.heap

-- where the entry has ended while some task holds the resource, the configuration isn't good
unfoldable pub EndedWhileHeldIsNotGood : Type 0
EndedWhileHeldIsNotGood = (c : Config) (path : Path) → HasEnded [] c.tasks → c.common.held lock ≡ Some path
    → Good guarded c → ⊥

-- `skip` starts at the one cell of the invariant
unfoldable pub SkipStartsWithTheInvariant : Type 0
SkipStartsWithTheInvariant = (k : Cell) → Start guarded (record { 0 = 0 }) (shared_in (loc 1)) (one_at k)
    (initial_config settled guarded (record { 0 = 0 }) skip (shared_in (loc 1)) (one_at k))

-- it starts with no other heap than one cell where the variable of the resource says
unfoldable pub SkipStartsWithNothingElse : Type 0
SkipStartsWithNothingElse = (store : Store) (heap : Heap) (c : Config)
    → Start guarded (record { 0 = 0 }) store heap c
    → (location : ℕ) × (k : Cell) × (store (shared lock 0) ≡ Some (loc location)) × IsOne location k heap

-- so it doesn't start on the empty heap
unfoldable pub SkipDoesNotStartWithNothing : Type 0
SkipDoesNotStartWithNothing = (store : Store) (heap : Heap) (c : Config) → IsEmpty heap
    → Start guarded (record { 0 = 0 }) store heap c → ⊥

-- a procedure whose precondition mentions a variable of a resource doesn't start at all, since it counts as
-- holding the resource
unfoldable pub HoldersDoNotStart : Type 0
HoldersDoNotStart = (store : Store) (heap : Heap) (c : Config) → Start guarded (record { 0 = 1 }) store heap c
    → ⊥

-- v = nil;
abbrev pub sets_shared : List Item
sets_shared = command (assign here at_shared Nil) ∷ []

-- if (v == nil) { } else { }
abbrev pub tests_shared : List Item
tests_shared = command (if here (Equal shared_one Nil) done done) ∷ []

-- with lock when (v == nil) { }
abbrev pub enters_by_shared : List Item
enters_by_shared = command (with here lock (Equal shared_one Nil) done) ∷ []

-- f(v;);
abbrev pub passes_shared : List Item
passes_shared = command (call here (record {
  callee = record { 0 = 1 };
  place = here;
  references = at_shared ∷ [];
  values = [];
})) ∷ []

-- x = new();
abbrev pub makes_one : List Item
makes_one = command (new here (at_own 0)) ∷ []

-- an assignment and a test of one variable race
unfoldable pub AssignmentAndTestRace : Type 0
AssignmentAndTestRace = (s : Common) → Bad (side_by_side sets_shared tests_shared s)

-- an assignment and the entry of a free resource's region whose condition reads the variable race; while the
-- resource is held they don't
unfoldable pub AssignmentAndConditionRace : Type 0
AssignmentAndConditionRace = (s : Common)
    → (s.held lock ≡ None → Bad (side_by_side sets_shared enters_by_shared s))
    × ((path : Path) → s.held lock ≡ Some path → Bad (side_by_side sets_shared enters_by_shared s) → ⊥)

-- an assignment and a call that passes the variable as a reference don't
unfoldable pub AssignmentAndReferenceDoNotRace : Type 0
AssignmentAndReferenceDoNotRace = (s : Common) → Bad (side_by_side sets_shared passes_shared s) → ⊥

-- nor do a `new` and a look-up of a cell that is there
unfoldable pub NewAndLookUpDoNotRace : Type 0
NewAndLookUpDoNotRace = (k : Cell) → Bad (side_by_side makes_one looks_up (at_one_cell k None)) → ⊥

-- after a call neither the number of its event nor that of the start is new: no event of any task has it
unfoldable pub UsedNumbersStayUsed : Type 0
UsedNumbersStayUsed = (k : Cell) (c d : Config) (again : Event) → Step setting (event [] 1) (setting_start k) c
    → (again.number ≡ 1) ⊎ (again.number ≡ 0) → Step setting again c d → ⊥

-- a task whose path has 63 turns has no event at a fork
unfoldable pub DeepForksDoNotStep : Type 0
DeepForksDoNotStep = (p : Program) (ev : Event) (c d : Config) (f : Fixed) (one two : Call) (rest : List Item)
    (below : List Frame) → length ev.task ≡ 63
    → task_at ev.task c.tasks ≡ Some (task_with f (command (fork here one two) ∷ rest) below)
    → Step p ev c d → ⊥

-- one whose path has 62 turns has one: the entry of `forks` that deep in the tree
unfoldable pub LessDeepForksStep : Type 0
LessDeepForksStep = (ev : Event) (c : Config) → length ev.task ≡ 62
    → task_at ev.task c.tasks ≡ Some (runs (entry_frame (record { 0 = 0 }) forks ∷ []))
    → c.used ev.number ≡ false → (d : Config) × Step forking ev c d

-- twice(c;) [c |->] { set(; c); set(; c); } [c |->]
abbrev pub twice : Procedure
twice = procedure (codes "c" ∷ []) 1 0 one_cell
    (then (call here (calls 1 (own_one 0 ∷ []))) (then (call here (calls 1 (own_one 0 ∷ []))) done))

-- it and `set`, with no resource
abbrev pub setting_twice : Program
setting_twice = record { fields = codes "hd" ∷ []; resources = []; procedures = twice ∷ set ∷ [] }

-- `twice` starts at the one cell
abbrev pub twice_start : Cell → Config
twice_start k = initial_config settled setting_twice (record { 0 = 0 }) twice (one_in (loc 1)) (one_at k)

-- the slot of the first call, which has returned, is gone, and the second call has another
pub record HasNewRoom (number : ℕ) (d : Config) : Type 0 where
  pub new : number ≢ 1
  pub gone : d.common.store (own 1 0) ≡ None
  pub there : d.common.store (own number 0) ≡ Some (loc 1)

-- a room isn't given twice: whatever number the second call has, its slot isn't that of the first
unfoldable pub RoomsAreNotGivenTwice : Type 0
RoomsAreNotGivenTwice = (k : Cell) (number : ℕ) (d : Config) → Reach setting_twice (twice_start k)
    (event [] 1 ∷ event [] 2 ∷ event [] 3 ∷ event [] number ∷ []) d → HasNewRoom number d

-- both orders of the returns of a fork's children lead to one configuration
unfoldable pub ReturnsCommute : Type 0
ReturnsCommute = (d : Config)
    × Reach forking forking_start (event [] 1 ∷ event (left ∷ []) 2 ∷ event (right ∷ []) 3 ∷ []) d
    × Reach forking forking_start (event [] 1 ∷ event (right ∷ []) 3 ∷ event (left ∷ []) 2 ∷ []) d

-- so do both orders of a mutation and of another task's entry of a region
unfoldable pub MutationAndEntryCommute : Type 0
MutationAndEntryCommute = (p : Program) (k : Cell) → (d : Config)
    × Reach p (side_by_side mutates enters (at_one_cell k None))
    (event (left ∷ []) 2 ∷ event (right ∷ []) 3 ∷ []) d
    × Reach p (side_by_side mutates enters (at_one_cell k None))
    (event (right ∷ []) 3 ∷ event (left ∷ []) 2 ∷ []) d
