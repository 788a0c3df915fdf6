-- The contents of all resources at the end of a run, and the values that they have.
-- Ordinary: a row of values for each.
use Rattle.std.specs.Prelude.{◌≡◌, ℕ, List, [], ◌∷◌, get_or, length, map, Vec}
use Rattle.std.specs.declared.alloc.Global.{Global}
use mathlib.Core.Option.{some}
use lib.ListN.{get_elem?}
use Rattle.sf_base.specs.declared.value.Value.{Value}
use Rattle.sf_base.specs.HeapStore.{Heap, shared}
use Rattle.sf_core.specs.Machine.Whole.{Content as WholeContent}
use Rattle.sf_core.specs.Program.Syntax.{Program}
use Rattle.sf_frame.specs.Checked.Endings.{AreValues}
use Rattle.sf_part.specs.declared.content.Content.{Content}
use Rattle.sf_part.specs.Contents.{content_of}
use Rattle.sf_region.specs.Rule.{IsExactly}
use Rattle.sf_region.specs.Waits.{contents_in}

-- there is one content for each resource, in their order, and each is exactly its resource's
pub record AreAll (p : Program) (contents : List Content) : Type 0 where
  pub each : length contents ≡ length p.resources
  pub exactly : (r : ℕ) (k : Content) → get_elem? contents r ≡ some k → IsExactly p r k

-- their cells
abbrev pub heaps_of : List Content → List Heap
heaps_of contents = map (λ (k : WholeContent). k.heap) (contents_in contents)

-- for each content there is a row, which has as many values as there are variables by these counts
abbrev pub AreRowsOf : (counts : List ℕ) → List Content → List (Vec Value Global) → Type 0
AreRowsOf counts [] [] = Unit {0}
AreRowsOf counts [] (row ∷ rows) = ⊥
AreRowsOf counts (k ∷ contents) [] = ⊥
AreRowsOf counts (k ∷ contents) (row ∷ rows) =
    AreValues (content_of k).content.store (shared k.resource) (get_or counts k.resource.0 0) row.items
    × AreRowsOf counts contents rows
