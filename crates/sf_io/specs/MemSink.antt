-- What a sink in memory keeps.
-- A stand-in whose output can be looked at: Meszaros, xUnit test patterns, 2007.
use Rattle.std.specs.Prelude.{ℕ, List}
use Rattle.sf_io.specs.FaultPlan.{Plan}

-- the bytes that were put, the most that one call takes, the calls made and which of them are to fail, and the count of faults
pub record Taken : Type 0 where
  pub bytes : List ℕ
  pub most : ℕ
  pub plan : Plan
  pub faults : ℕ
