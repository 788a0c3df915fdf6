-- What a gate that holds callers for a while was told.
-- A stand-in that is told what to do: Meszaros, xUnit test patterns, 2007.
use Rattle.std.specs.Prelude.{ℕ, List}
use Rattle.sf_io.specs.declared.gate.Point.{Point}

-- the points at which it holds callers; those that it waits for, and how often they are to be passed together; and after
-- how many turns it waits no longer
pub record Told : Type 0 where
  pub held : List Point
  pub awaited : List Point
  pub times : ℕ
  pub turns : ℕ
