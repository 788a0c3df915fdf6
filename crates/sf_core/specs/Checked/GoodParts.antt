-- Good configurations by the separating conjunction: the heap splits along the resources and the tree of tasks.
-- O'Hearn (2007); Brookes (2007).
use Rattle.std.specs.Prelude.{◌≡◌, ℕ, suc, List, [], ◌∷◌, Option, Some, None}
use Rattle.std.specs.List.{slice_get}
use Rattle.sf_base.specs.declared.ids.ResId.{ResId}
use Rattle.sf_base.specs.declared.value.Value.{Value}
use Rattle.sf_base.specs.declared.value.Value.TheVariants.{Nil as nil}
use Rattle.sf_core.specs.declared.command.Expr.{Expr}
use Rattle.sf_core.specs.Machine.Bad.{Bad}
use Rattle.sf_core.specs.Machine.Config.{Item, Fixed, Frame, Task, runs, waits, Path, Config, evaluate}
use Rattle.sf_core.specs.Machine.Enabled.{HasEnded}
use Rattle.sf_core.specs.Machine.Good.{owed_by, Good}
use Rattle.sf_base.specs.HeapStore.{Heap, IsEmpty, Store, ◌⋆◌}
use Rattle.sf_core.specs.Assertions.Sat.{Sat}
use Rattle.sf_core.specs.Machine.Start.{entry_slot}
use Rattle.sf_core.specs.Machine.Step.{procedure_at}
use Rattle.sf_core.specs.Program.Syntax.{Level, Procedure, Program, Resource}

-- the part of a resource: it satisfies the invariant while the resource is free, and is empty while it is
-- held
abbrev pub InvariantPart : Store → (holder : Option Path) → Resource → Heap → Type 0
InvariantPart store None of h = Sat of.invariant.level (evaluate entry_slot store) (λ n. nil) h
InvariantPart store (Some path) of h = IsEmpty h

-- one part for each resource of a list whose numbers begin there
abbrev pub InvariantParts : Store → (ResId → Option Path) → (number : ℕ) → List Resource → Heap → Type 0
InvariantParts store held number [] h = IsEmpty h
InvariantParts store held number (r ∷ rs) h = (InvariantPart store (held (record { 0 = number })) r
    ⋆ InvariantParts store held (suc number) rs) h

-- one part for each assertion of a list, which satisfies it
abbrev pub SatEach : List (Level Expr) → (Expr → Value) → Heap → Type 0
SatEach [] see h = IsEmpty h
SatEach (a ∷ rest) see h = (Sat a see (λ n. nil) ⋆ SatEach rest see) h

-- the part of a frame: where nothing is left to do its procedure is there and the part satisfies what its return
-- owes, and else it is empty
abbrev pub FramePart : Program → Store → Fixed → (todo : List Item) → Heap → Type 0
FramePart p store f [] h = (g : Procedure) × (procedure_at p f.procedure ≡ Some g)
    × SatEach (owed_by p g) (evaluate f.slots store) h
FramePart p store f (i ∷ rest) h = IsEmpty h

-- one part for each task of a tree, which is that of its innermost frame
abbrev pub TaskParts : Program → Store → Task → Heap → Type 0
TaskParts p store (runs []) h = IsEmpty h
TaskParts p store (runs (f ∷ below)) h = FramePart p store f.fixed f.todo h
TaskParts p store (waits frames one two) h = (TaskParts p store one ⋆ TaskParts p store two) h

-- what isn't in these parts: nothing, where the entry has ended
abbrev pub RestPart : Config → Heap → Type 0
RestPart c h = HasEnded [] c.tasks → IsEmpty h

-- the entry's last frame is there, and its procedure; and all resources are free
pub record EndsWell (p : Program) (c : Config) : Type 0 where
  pub frame : Frame
  pub alone : c.tasks ≡ runs (frame ∷ [])
  pub procedure : Procedure
  pub there : procedure_at p frame.fixed.procedure ≡ Some procedure
  pub free : (r : ResId) (of : Resource) → slice_get p.resources r.0 ≡ Some of → c.common.held r ≡ None

-- a configuration is good that isn't bad, whose heap splits so, and that ends well where it has ended
unfoldable pub PartsMakeGood : Type 0
PartsMakeGood = (p : Program) (c : Config) → (Bad c → ⊥)
    → (InvariantParts c.common.store c.common.held 0 p.resources
    ⋆ (TaskParts p c.common.store c.tasks ⋆ RestPart c)) c.common.heap
    → (HasEnded [] c.tasks → EndsWell p c)
    → Good p c
