-- Good: nothing bad is next, free resources and returns have disjoint footprints, nothing leaks.
-- O'Hearn (2007) and Brookes (2007), for the separation that holds at each moment.
use Rattle.std.specs.Prelude.{◌≡◌, ◌≢◌, ℕ, cond, List, [], ◌∷◌, map, Some, None, ◌⊎◌}
use Rattle.std.specs.List.{slice_get}
use Rattle.sf_base.specs.declared.ids.ResId.{ResId}
use Rattle.sf_core.specs.Machine.Bad.{Bad}
use Rattle.sf_core.specs.Machine.Config.{Frame, runs, Path, Common, Config, evaluate, task_at, IsCalled}
use Rattle.sf_core.specs.Machine.Enabled.{HasEnded}
use Rattle.sf_base.specs.HeapStore.{Apart, Cell, Heap}
use Rattle.sf_core.specs.Assertions.Sat.{Foot}
use Rattle.sf_core.specs.Machine.Start.{entry_slot}
use Rattle.sf_core.specs.Machine.Step.{procedure_at}
use Rattle.sf_core.specs.declared.command.Expr.{Expr}
use Rattle.sf_core.specs.Program.Init.{is_init}
use Rattle.sf_core.specs.Program.Syntax.{Level, Procedure, Program, Resource}

-- whose a footprint is: a resource's, or that of an assertion that the return of the task at a path
-- owes, by its number in the list
pub data Owner : Type 0 where
  resource : ResId → Owner
  owed : Path → ℕ → Owner

-- the list of the assertions that the return of a procedure owes: its postcondition, or the invariant of each resource
-- where it sets the resources up
abbrev pub owed_by : Program → Procedure → List (Level Expr)
owed_by p g = cond (is_init g) (map (λ r. r.invariant.level) p.resources) (g.post.level ∷ [])

-- each assertion that the frame's return owes has a footprint, which is the part with its number
abbrev pub HasOwed : Program → Procedure → Frame → Common → (parts : ℕ → Heap) → Type 0
HasOwed p g frame s parts = (i : ℕ) (a : Level Expr) → slice_get (owed_by p g) i ≡ Some a
    → Foot a (evaluate frame.fixed.slots s.store) s.heap (parts i)

-- the task at the path is about to return from that frame
pub record Returns (c : Config) (path : Path) (frame : Frame) : Type 0 where
  pub below : List Frame
  pub there : task_at path c.tasks ≡ Some (runs (frame ∷ below))
  pub done : frame.todo ≡ []
  pub called : IsCalled path below

-- the cell at that location lies in a part that the entry, which is g, owes at its end, or in that
-- of a resource of the program
abbrev pub IsOwned : Program → (g : Procedure) → (Owner → Heap) → ℕ → Cell → Type 0
IsOwned p g part location cell =
    ((i : ℕ) × (a : Level Expr) × (slice_get (owed_by p g) i ≡ Some a)
    × (part (owed [] i) location ≡ Some cell))
    ⊎ ((r : ResId) × (of : Resource) × (slice_get p.resources r.0 ≡ Some of)
    × (part (resource r) location ≡ Some cell))

-- the entry has met its contract: all resources are free, and what they don't own satisfies its
-- postcondition
pub record Finished (p : Program) (c : Config) (part : Owner → Heap) : Type 0 where
  pub frame : Frame
  pub alone : c.tasks ≡ runs (frame ∷ [])
  pub procedure : Procedure
  pub there : procedure_at p frame.fixed.procedure ≡ Some procedure
  pub free : (r : ResId) (of : Resource) → slice_get p.resources r.0 ≡ Some of
      → c.common.held r ≡ None
  pub posts : HasOwed p procedure frame c.common (λ i. part (owed [] i))
  -- every cell is the entry's or a resource's
  pub all : (location : ℕ) (cell : Cell) → c.common.heap location ≡ Some cell
      → IsOwned p procedure part location cell

-- Good: never bad, and pairwise disjoint parts of the heap are the footprints of what holds at this
-- moment
pub record Good (p : Program) (c : Config) : Type 0 where
  pub never_bad : Bad c → ⊥
  pub part : Owner → Heap
  pub apart : (owner other : Owner) → owner ≢ other → (location : ℕ)
      → Apart (part owner location) (part other location)
  -- each free resource has a footprint of its invariant
  pub invariants : (r : ResId) (of : Resource) → slice_get p.resources r.0 ≡ Some of
      → c.common.held r ≡ None
      → Foot of.invariant.level (evaluate entry_slot c.common.store) c.common.heap
      (part (resource r))
  -- each task whose next step is a return has a footprint of each assertion that it owes
  pub posts : (path : Path) (frame : Frame) (g : Procedure) → Returns c path frame
      → procedure_at p frame.fixed.procedure ≡ Some g
      → HasOwed p g frame c.common (λ i. part (owed path i))
  -- where the entry has ended, it has met its contract and nothing is leaked
  pub finished : HasEnded [] c.tasks → Finished p c part
