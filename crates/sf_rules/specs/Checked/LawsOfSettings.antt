-- A program has one setting, and the code's is it.
-- Ordinary: a set in order is one list, and what is determined has one order.
use Rattle.std.specs.Prelude.{◌≡◌}
use Rattle.sf_core.specs.Program.Formed.{IsFormed}
use Rattle.sf_core.specs.Program.ProgramView.{program_of}
use Rattle.sf_core.specs.Program.Syntax.{Assertion, Program}
use Rattle.sf_precise.specs.declared.arranged.Arranged.{Arranged}
use Rattle.sf_precise.specs.Order.{IsOrdering}
use Rattle.sf_rules.specs.Setting.{IsSettingOf, Setting, setting_of}

-- a program has one setting at most
unfoldable pub SettingIsUnique : Type 0
SettingIsUnique = (p : Program) (d e : Setting) → IsSettingOf p d → IsSettingOf p e → d ≡ e

-- a program that is in order has one
unfoldable pub SettingExists : Type 0
SettingExists = (p : Program) → IsFormed p → (d : Setting) × IsSettingOf p d

-- what the code has arranged is one, by any function that puts annotations in order
unfoldable pub ArrangedHasSetting : Type 0
ArrangedHasSetting =
    (in_order : Assertion → Assertion) (a : Arranged) → IsOrdering in_order
    → IsSettingOf (program_of a.program) (setting_of in_order a)
