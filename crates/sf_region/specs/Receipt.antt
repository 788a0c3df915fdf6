-- Receipt: what a receipt for misses says.
-- Ordinary: with what its table began, whose misses they are, where, and how many.
use Rattle.std.specs.Prelude.{ℕ}
use Rattle.sf_base.specs.declared.ids.ResId.{ResId}
use Rattle.sf_core.specs.Machine.Config.{Path}
use Rattle.sf_region.specs.declared.views.Begun.{Begun}

pub record Receipt : Type 0 where
  pub begun : Begun
  pub task : Path
  pub resource : ResId
  pub count : ℕ
