-- Setting: what rows need of a program besides a goal: the least sets of its calls, and its annotations in order.
-- The sets are those of the variable conditions of Berdine, Calcagno, O'Hearn, "Smallfoot" (2005).
use Rattle.std.specs.Prelude.{◌≡◌}
use Rattle.sf_calls.specs.Sets.{AreSetsOf, Sets}
use Rattle.sf_core.specs.Program.ProgramView.{program_of}
use Rattle.sf_core.specs.Program.Syntax.{Assertion, Program}
use Rattle.sf_precise.specs.Order.{IsOrdering}
use Rattle.sf_precise.specs.declared.arranged.Arranged.{Arranged}

-- Setting: a program, for each procedure what it holds and what is free in it, and a function that puts annotations in
-- order
pub record Setting : Type 0 where
  pub program : Program
  pub sets : Sets
  pub ordered : Assertion → Assertion

-- IsSettingOf: it is the program's: it has its sets, and puts each assertion that has an order in that order
pub record IsSettingOf (p : Program) (d : Setting) : Type 0 where
  pub program : d.program ≡ p
  pub sets : AreSetsOf p d.sets
  pub ordering : IsOrdering d.ordered

-- the setting of a program that the code has arranged, by a function that puts annotations in order
abbrev pub setting_of : (ordered : Assertion → Assertion) → Arranged → Setting
setting_of ordered a = record { program = program_of a.program; sets = a.calls; ordered = ordered }
