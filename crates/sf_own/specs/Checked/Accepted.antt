-- Accepted: what is known of a program once it is proved.
-- O'Hearn, Yang, Reynolds, "Separation and Information Hiding" (2004): precise annotations.
use Rattle.std.specs.Prelude.{Contains}
use Rattle.sf_calls.specs.FirstBreach.{Conditions}
use Rattle.sf_core.specs.Assertions.Determined.{Determined}
use Rattle.sf_core.specs.Program.Formed.{IsFormed}
use Rattle.sf_core.specs.Program.Syntax.{Assertion, Program}
use Rattle.sf_precise.specs.Annotations.{annotations_in}
use Rattle.sf_safe.specs.Checked.Law.{BodiesAreSafe}

-- IsAccepted: the program is formed, meets the conditions on variables, and has determined
-- annotations and safe bodies
pub record IsAccepted (p : Program) : Type 0 where
  pub formed : IsFormed p
  pub conditions : Conditions p
  pub determined : (a : Assertion) → Contains (annotations_in p) a → Determined a.level
  pub bodies : BodiesAreSafe p
