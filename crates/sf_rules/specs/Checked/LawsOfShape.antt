-- Laws of the shape of a program's goals: the first goal of each procedure has it, and every rule
-- keeps it; so each goal of the procedure has it, and its numbers rise slowly.
-- Ordinary: an invariant of the rules, and how often they are taken.
use Rattle.std.specs.Prelude.{◌≡◌, ℕ, ◌+◌, ◌-◌, ◌*◌, ◌≤◌, List, Some}
use Rattle.std.specs.List.{AllByRecursion, slice_get}
use Rattle.sf_base.specs.declared.ids.ProcId.{ProcId}
use Rattle.sf_calls.specs.Checked.Laws.{ChangesAreAssigned, FirstBreachIsBroken, HeldResourcesAreThere}
use Rattle.sf_calls.specs.FirstBreach.{Conditions}
use Rattle.sf_core.specs.Program.Formed.{IsFormed}
use Rattle.sf_core.specs.Program.Syntax.{Procedure}
use Rattle.sf_precise.specs.Checked.Laws.{DeterminedHasOrder, NeverTakenIsUndetermined, OrderKeepsForm, UndeterminedHasPlace}
use Rattle.sf_rules.specs.declared.few.TheConstants.{TOO_MANY}
use Rattle.sf_rules.specs.First.{first_goal}
use Rattle.sf_rules.specs.Rules.{Leaves}
use Rattle.sf_rules.specs.Setting.{IsSettingOf, Setting}
use Rattle.sf_rules.specs.Shape.{IsGoalAfter, IsShaped}
use Rattle.sf_sym.specs.declared.tag.Tag.{Tag}
use Rattle.sf_sym.specs.Goal.{Goal}
use Rattle.sf_sym.specs.State.{State}

-- the laws of the crates below on which it rests that a program's annotations and bodies fit
pub record LawsBelow : Type 0 where
  pub assigned : ChangesAreAssigned
  pub breaches : FirstBreachIsBroken
  pub held : HeldResourcesAreThere
  pub decided : UndeterminedHasPlace
  pub never : NeverTakenIsUndetermined
  pub ordered : DeterminedHasOrder
  pub form : OrderKeepsForm

-- a program that is well formed, and breaks no condition on variables, has that setting
pub record IsSetUp (d : Setting) : Type 0 where
  pub formed : IsFormed d.program
  pub conditions : Conditions d.program
  pub setting : IsSettingOf d.program d

-- the first goal of a procedure is shaped
unfoldable pub FirstGoalsAreShaped : Type 0
FirstGoalsAreShaped =
    (d : Setting) → IsSetUp d → (f : ProcId) (g : Procedure)
    → slice_get d.program.procedures f.0 ≡ Some g
    → IsShaped d (first_goal d f g)

-- a goal that a rule leaves in that state is shaped, and has fewer than `TOO_MANY` symbols and
-- atoms more
pub record IsLeft (d : Setting) (s : State) (goal : Goal) : Type 0 where
  pub shaped : IsShaped d goal
  pub symbols : goal.state.next_sym ≤ s.next_sym + (TOO_MANY - 1)
  pub atoms : goal.state.next_atom ≤ s.next_atom + (TOO_MANY - 1)

-- every rule keeps the shape
unfoldable pub RowsKeepShape : Type 0
RowsKeepShape =
    (d : Setting) → IsSetUp d → (goal : Goal) (tag : Tag) (left : List Goal) → IsShaped d goal
    → Leaves d goal tag left → AllByRecursion (IsLeft d goal.state) left

-- that many tags after its first goal, a goal of a procedure is shaped, and has fewer than
-- `TOO_MANY` symbols and atoms more for each of them
pub record IsGrown (d : Setting) (first : Goal) (tags : ℕ) (goal : Goal) : Type 0 where
  pub shaped : IsShaped d goal
  pub symbols : goal.state.next_sym ≤ first.state.next_sym + (TOO_MANY - 1) * tags
  pub atoms : goal.state.next_atom ≤ first.state.next_atom + (TOO_MANY - 1) * tags

-- each goal of a procedure is so
unfoldable pub GoalsAreShaped : Type 0
GoalsAreShaped =
    (d : Setting) → IsSetUp d → (f : ProcId) (g : Procedure)
    → slice_get d.program.procedures f.0 ≡ Some g
    → (tags : ℕ) (goal : Goal) → IsGoalAfter d (first_goal d f g) tags goal
    → IsGrown d (first_goal d f g) tags goal

-- a first goal has few symbols, and no atom has a number yet
unfoldable pub FirstGoalsAreSmall : Type 0
FirstGoalsAreSmall =
    (d : Setting) → IsSetUp d → (f : ProcId) (g : Procedure)
    → slice_get d.program.procedures f.0 ≡ Some g
    → ((first_goal d f g).state.next_sym ≤ 20000) × ((first_goal d f g).state.next_atom ≡ 1)
