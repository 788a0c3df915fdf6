-- Circle: tasks that hold resources and wait for one another in a circle.
-- Circular wait: Coffman, Elphick and Shoshani, "System Deadlocks" (1971), for tasks that wait for their children too.
use Rattle.std.specs.Prelude.{◌≡◌, true, List, Some}
use Rattle.sf_base.specs.declared.ids.ResId.{ResId}
use Rattle.sf_core.specs.Machine.Config.{Path, Config}
use Rattle.sf_core.specs.Machine.SpentSteps.{is_at_or_above}
use Rattle.sf_core.specs.Machine.SpentWaits.{IsAtRegion}
use Rattle.sf_order.specs.Cycles.{IsCycle}

-- r is held, and the task that holds it, or a descendant of it, stands at a region of s
pub record IsHeldBefore (c : Config) (r s : ResId) : Type 0 where
  pub holder : Path
  pub held : c.common.held r ≡ Some holder
  pub path : Path
  pub below : is_at_or_above holder path ≡ true
  pub stands : IsAtRegion c path s

-- Circle: there are resources, each of them held before the next one, and the last before the first
abbrev pub Circle : Config → Type 0
Circle c = (rs : List ResId) × IsCycle (IsHeldBefore c) rs
