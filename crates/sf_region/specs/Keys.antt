-- Keys: with what a table began.
-- Ordinary: each as it was.
use Rattle.std.specs.Prelude.{List}
use Rattle.sf_core.specs.declared.program.Program.{Program}
use Rattle.sf_part.specs.declared.content.Content.{Content}
use Rattle.sf_part.specs.declared.part.Part.{Part}
use Rattle.sf_region.specs.declared.steps.Key.{Key}
use Rattle.sf_region.specs.declared.views.Begun.{Begun}

-- with that
abbrev pub begun_with : Program → Part → List Content → Begun
begun_with p a contents = record { program = p; part = a; contents = contents }

-- by its key
abbrev pub begun_of : Key → Begun
begun_of k = begun_with k.program.value k.part.value k.contents.value.items
