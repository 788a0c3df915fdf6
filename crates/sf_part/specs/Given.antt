-- Given: that what a part gives up at an exit is exactly the resource's: its variables, and cells
-- that satisfy its invariant.
-- O'Hearn (2007): a task leaves a region with the resource's invariant, and keeps all else.
use Rattle.std.specs.Prelude.{◌≡◌, ◌==◌, ◌&&◌, ℕ, Bool, false, ltb, List, length, Some, is_some}
use Rattle.std.specs.List.{AllByRecursion, slice_get}
use Rattle.sf_base.specs.declared.ids.ResId.{ResId}
use Rattle.sf_base.specs.declared.value.Value.TheVariants.{Nil as nil}
use Rattle.sf_base.specs.HeapStore.{Slot, shared, own}
use Rattle.sf_core.specs.Assertions.Sat.{Sat}
use Rattle.sf_core.specs.Machine.Config.{evaluate}
use Rattle.sf_core.specs.Machine.Start.{entry_slot}
use Rattle.sf_core.specs.Machine.Step.{Event}
use Rattle.sf_core.specs.Machine.Whole.{Content}
use Rattle.sf_core.specs.Program.Syntax.{Program, Resource}
use Rattle.sf_part.specs.Steps.{Exits, Settles}
use Rattle.sf_part.specs.Timed.{TimedPart, TimedContent}

-- whether a slot is that of a variable of the resource, which has so many
abbrev pub is_variable_of : ResId → (count : ℕ) → Slot → Bool
is_variable_of r count (shared q i) = (q.0 == r.0) && ltb i count
is_variable_of r count (own event index) = false

-- IsContentOf: the content of a resource of the program is just its variables, and cells that
-- satisfy its invariant
pub record IsContentOf (p : Program) (k : Content) : Type 0 where
  pub resource : Resource
  pub there : slice_get p.resources k.resource.0 ≡ Some resource
  pub variables : (slot : Slot)
      → is_some (k.store slot) ≡ is_variable_of k.resource (length resource.variables) slot
  pub invariant : Sat resource.invariant.level (evaluate entry_slot k.store) (λ n. nil) k.heap

-- Gives: an exit that leaves just that behind
pub record Gives (p : Program) (event : Event) (before : TimedPart) (content : TimedContent)
    (after : TimedPart) : Type 0 where
  pub exits : Exits p event before content after
  pub exactly : IsContentOf p content.content

-- GivesEach: the return that sets the resources up, where it leaves just that behind of each
pub record GivesEach (p : Program) (event : Event) (before : TimedPart)
    (contents : List TimedContent) (after : TimedPart) : Type 0 where
  pub settles : Settles p event before contents after
  pub exactly : AllByRecursion (λ (k : TimedContent). IsContentOf p k.content) contents
