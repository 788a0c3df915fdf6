-- Where a part of one task stands while it makes its own steps.
-- Ordinary: two facts that a loop keeps.
use Rattle.std.specs.Prelude.{◌≡◌, []}
use Rattle.sf_part.specs.Keeps.{IsWaiting}
use Rattle.sf_part.specs.Timed.{TimedPart}

-- its task is the entry's, and doesn't wait
pub record IsAtEntry (a : TimedPart) : Type 0 where
  pub task : a.part.task ≡ []
  pub runs : IsWaiting a.part.stand → ⊥
