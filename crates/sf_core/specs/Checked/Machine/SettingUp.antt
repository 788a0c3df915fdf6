-- Examples of a fresh start: the procedure that sets a resource up runs first, and where it returns the resource has its
-- invariant's cell and is free; one that leaves the invariant unmet isn't good at its return.
-- O'Hearn, "Resources, Concurrency and Local Reasoning" (2007), whose programs begin with such a part.
use Rattle.std.specs.Prelude.{◌≡◌, ◌≢◌, ℕ, [], ◌∷◌, codes, Some, None}
use Rattle.sf_base.specs.declared.ids.ProcId.{ProcId}
use Rattle.sf_base.specs.declared.value.Value.TheVariants.{Nil as nil, Loc as loc}
use Rattle.sf_base.specs.HeapStore.{Heap, IsOne, shared}
use Rattle.sf_core.specs.Checked.Machine.Examples.{at_shared, emp, event, guarding, here, lock, shared_in, skip}
use Rattle.sf_core.specs.Machine.Config.{Config}
use Rattle.sf_core.specs.Machine.Enabled.{HasEnded}
use Rattle.sf_core.specs.Machine.Good.{Good}
use Rattle.sf_core.specs.Machine.Start.{Start, fresh, initial_config}
use Rattle.sf_core.specs.Machine.Step.{Event, Step}
use Rattle.sf_core.specs.Program.Syntax.{new, Block, done, then, Procedure, Program}

-- the procedure named `init` with that body, and without variables
abbrev pub init_with : Block → Procedure
init_with body = record {
  name = codes "init";
  place = here;
  names = [];
  references = 0;
  values = 0;
  locals = 0;
  pre = emp;
  post = emp;
  body = body;
  end = here;
}

-- init() { v = new(); }
abbrev pub makes_its_cell : Procedure
makes_its_cell = init_with (then (new here at_shared) done)

-- init() { }
abbrev pub makes_nothing : Procedure
makes_nothing = init_with done

-- `skip` and a procedure that sets the resource up, with resource lock (v) [v |->]
abbrev pub set_up_by : Procedure → Program
set_up_by h = record { fields = codes "hd" ∷ []; resources = guarding ∷ []; procedures = skip ∷ h ∷ [] }

-- the number of `skip`, and that of the other
abbrev pub first : ProcId
first = record { 0 = 0 }

abbrev pub second : ProcId
second = record { 0 = 1 }

-- no cells
abbrev pub no_cells : Heap
no_cells = λ a. None

-- `skip` starts fresh, without cells and with nil in the variable of the resource
abbrev pub fresh_start : Procedure → Config
fresh_start h = initial_config (fresh second h) (set_up_by h) first skip (shared_in nil) no_cells

-- that is a start, whatever the other's body
unfoldable pub FreshSkipStarts : Type 0
FreshSkipStarts = (body : Block)
    → Start (set_up_by (init_with body)) first (shared_in nil) no_cells (fresh_start (init_with body))

-- it isn't one where the variable has another value
unfoldable pub SetVariablesDoNotStartFresh : Type 0
SetVariablesDoNotStartFresh = (h : Procedure) (location : ℕ) (c : Config)
    → (s : Start (set_up_by h) first (shared_in (loc location)) no_cells c) → ⊥

-- a new cell at that location, by the event of that number
abbrev pub makes_at : (location number : ℕ) → Event
makes_at location number = record { task = []; number = number; at = location; fields = λ f. nil }

-- the resource is free and has its cell there, and the entry has ended
pub record IsSetUp (location : ℕ) (d : Config) : Type 0 where
  pub free : d.common.held lock ≡ None
  pub variable : d.common.store (shared lock 0) ≡ Some (loc location)
  pub cell : IsOne location (λ f. nil) d.common.heap
  pub ended : HasEnded [] d.tasks

-- the cell is made and the procedure that made it returns; `skip` has then ended. At each moment that is good, and until the
-- return the entry's task holds the resource
unfoldable pub FreshSkipRuns : Type 0
FreshSkipRuns = (location : ℕ) → location ≢ 0 → (c : Config) × (d : Config)
    × Good (set_up_by makes_its_cell) (fresh_start makes_its_cell)
    × Step (set_up_by makes_its_cell) (makes_at location 1) (fresh_start makes_its_cell) c
    × (c.common.held lock ≡ Some []) × Good (set_up_by makes_its_cell) c
    × Step (set_up_by makes_its_cell) (event [] 2) c d × IsSetUp location d × Good (set_up_by makes_its_cell) d

-- one that makes nothing is at its return at once, and that isn't good
unfoldable pub UnmetInvariantsAreNotGood : Type 0
UnmetInvariantsAreNotGood = Good (set_up_by makes_nothing) (fresh_start makes_nothing) → ⊥
