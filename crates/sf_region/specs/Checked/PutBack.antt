-- A seat that has put a content back, before its word is freed.
-- Ordinary: the slot taken last has the content.
use Rattle.std.specs.Prelude.{◌≡◌, ℕ, List, ◌∷◌, Some}
use Rattle.atomic_table.specs.Table.{Me}
use Rattle.sf_base.specs.declared.ids.ResId.{ResId}
use Rattle.sf_core.specs.Program.Syntax.{Program}
use Rattle.sf_part.specs.declared.content.Content.{Content}
use Rattle.sf_part.specs.declared.part.Part.{Part}
use Rattle.sf_region.specs.declared.views.View.{View}
use Rattle.sf_region.specs.Calls.{MayLeave}
use Rattle.sf_region.specs.Rule.{Slot}

pub record IsPutBack (p : Program) (me : Me Slot View) (a : Part) (r : ResId) : Type 0 where
  pub content : Content
  pub may : MayLeave p me.0 a r content
  pub more : List (ℕ × Slot)
  pub deep : me.1 ≡ (r.0, Some content) ∷ more
