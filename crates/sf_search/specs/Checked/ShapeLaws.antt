-- Laws of the goals to which a search comes: they have the shape of a program's goals, and numbers suffice there, so the
-- strategy's tags have rows.
-- Ordinary: an invariant of the rows, and how often they are taken.
use Rattle.std.specs.Prelude.{◌≡◌, ℕ, ◌≤◌, true, Some}
use Rattle.std.specs.List.{slice_get}
use Rattle.sf_base.specs.declared.ids.ProcId.{ProcId}
use Rattle.sf_base.specs.declared.limits.TheConstants.{PROCEDURE_TAGS}
use Rattle.sf_core.specs.Program.Syntax.{Assertion, Procedure}
use Rattle.sf_precise.specs.declared.arranged.Arranged.{Arranged}
use Rattle.sf_precise.specs.Order.{IsOrdering}
use Rattle.sf_rules.specs.Checked.LawsOfShape.{IsSetUp}
use Rattle.sf_rules.specs.Rules.{has_numbers}
use Rattle.sf_rules.specs.First.{first_goal}
use Rattle.sf_rules.specs.Setting.{Setting, setting_of}
use Rattle.sf_rules.specs.Shape.{IsGoalAfter, IsShaped}
use Rattle.sf_sym.specs.Goal.{Goal}

-- each goal that comes after at most as many tags as a procedure may have has the shape, and numbers suffice there
abbrev pub KeepsShape : Setting → (first : Goal) → Type 0
KeepsShape d first =
    (tags : ℕ) (goal : Goal) → IsGoalAfter d first tags goal → tags ≤ PROCEDURE_TAGS
    → IsShaped d goal × (has_numbers goal.state ≡ true)

-- the goals of a program's procedure do
unfoldable pub GoalsHaveShape : Type 0
GoalsHaveShape =
    (d : Setting) → IsSetUp d → (f : ProcId) (g : Procedure) → slice_get d.program.procedures f.0 ≡ Some g
    → KeepsShape d (first_goal d f g)

-- a program that the code has arranged is set up, by any function that puts annotations in order
unfoldable pub ArrangedIsSetUp : Type 0
ArrangedIsSetUp =
    (in_order : Assertion → Assertion) (a : Arranged) → IsOrdering in_order → IsSetUp (setting_of in_order a)
