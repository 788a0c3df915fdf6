-- Contents of the code as contents of the definitions, and that they are of a program.
-- O'Hearn (2007): a resource owns its variables and cells while no task holds it.
use Rattle.std.specs.Prelude.{◌≡◌, length, Some, is_some}
use Rattle.std.specs.List.{slice_get}
use Rattle.sf_base.specs.HeapStore.{Slot}
use Rattle.sf_core.specs.Program.Syntax.{Program, Resource}
use Rattle.sf_foot.specs.Starting.{HasWidth}
use Rattle.sf_frame.specs.Stores.{store_of}
use Rattle.sf_heap.specs.Cells.{heap_of}
use Rattle.sf_part.specs.declared.content.Content.{Content}
use Rattle.sf_part.specs.Given.{is_variable_of}
use Rattle.sf_part.specs.Timed.{TimedContent}

-- the content
abbrev pub content_of : Content → TimedContent
content_of k = record {
  content = record { resource = k.resource; heap = heap_of k.heap; store = store_of k.store };
  stamp = k.stamp;
}

-- a content is of the program: it has just the variables of its resource, which is one of the
-- program's, and its cells have the program's fields
pub record IsContentIn (p : Program) (k : Content) : Type 0 where
  pub resource : Resource
  pub there : slice_get p.resources k.resource.0 ≡ Some resource
  pub variables : (slot : Slot)
      → is_some (store_of k.store slot) ≡ is_variable_of k.resource (length resource.variables) slot
  pub wide : HasWidth (length p.fields) k.heap
