-- The shape of a program's goals: a first goal has it, every row keeps it, and so each goal of a procedure has it, with
-- numbers that rise slowly.
-- Names: `formed-LAW` of a program that is set up; the laws have the names of the functions whose contracts they are.
use Rattle.std.specs.List.{AllByRecursion, Contains, slice_get}
use Rattle.std.proofs.Common.{◌≡◌, ℕ, zero, suc, Some, List, [], ◌∷◌, length, refl, sym, subst, inl, inr, arith}
use Rattle.sf_base.proofs.Elements.{contains-cons, contains-nil}
use Rattle.sf_base.specs.declared.ids.ProcId.{ProcId}
use Rattle.sf_base.specs.declared.ids.Var.{Var}
use Rattle.sf_calls.specs.Checked.Laws.{ChangesAreAssigned, FirstBreachIsBroken, HeldResourcesAreThere}
use Rattle.sf_calls.specs.declared.breach.Breach.TheVariants.{ParallelShares}
use Rattle.sf_core.specs.Program.Formed.{AssertionWithin, IsFormed, IsInBody, IsOfResource, IsParameter}
use Rattle.sf_core.specs.Program.Heads.{sites}
use Rattle.sf_core.specs.Program.Syntax.{Assertion, Procedure}
use Rattle.sf_precise.specs.Checked.Laws.{DeterminedHasOrder, NeverTakenIsUndetermined, OrderKeepsForm, UndeterminedHasPlace}
use Rattle.sf_precise.specs.Order.{IsOrderOf}
use Rattle.sf_rules.proofs.FirstShapes.{first-atom, first-shaped, first-symbols}
use Rattle.sf_rules.proofs.Fits.{IsFitting, items-fit, todo-fits}
use Rattle.sf_rules.proofs.FormedAnnotations.{annotation-fits}
use Rattle.sf_rules.proofs.FormedBodies.{ForksApart, block-fits}
use Rattle.sf_rules.proofs.BodyVariables.{first-variables}
use Rattle.sf_rules.proofs.KeptShapes.{AllOrderly, IsOrderly, first-orderly, rows-orderly}
use Rattle.sf_rules.specs.Checked.LawsOfRows.{RowLaws}
use Rattle.sf_rules.proofs.KeptVariables.{AllHave, next-reads, rows-have}
use Rattle.sf_rules.proofs.ShapedGoals.{AllKeep}
use Rattle.sf_rules.proofs.ShapedRows.{ProgramFits, cases-keep}
use Rattle.sf_rules.specs.Checked.LawsOfShape.{FirstGoalsAreShaped, FirstGoalsAreSmall, GoalsAreShaped, IsGrown, IsLeft, IsSetUp, LawsBelow, RowsKeepShape}
use Rattle.sf_rules.specs.Checked.RowCases.{RowsHaveCases}
use Rattle.sf_rules.specs.First.{first_goal}
use Rattle.sf_rules.specs.Checked.Lemmas.RuleRows.{leaves-row}
use Rattle.sf_rules.specs.Rules.{Leaves}
use Rattle.sf_rules.specs.HasVariables.{HasVariables}
use Rattle.sf_rules.specs.Setting.{Setting}
use Rattle.sf_rules.specs.Shape.{AnnotationFits, BlockFits, IsGoalAfter, IsShaped}
use Rattle.sf_sym.specs.declared.tag.Tag.{Tag}
use Rattle.sf_sym.specs.Formed.{ItemFormed}
use Rattle.sf_sym.specs.Goal.{Goal}
use Rattle.sf_sym.specs.State.{State}

-- A GOAL IS SHAPED where it fits and is orderly, and only there
pub shaped-fitting : (d : Setting) (goal : Goal) → IsShaped d goal → IsFitting d goal
shaped-fitting d goal h = record {
  below = h.shape.below;
  state = h.state;
  todo = items-fit d goal.todo
      (subst (λ k. AllByRecursion (ItemFormed k) goal.todo) h.state.links h.shape.formed) h.todo;
}

fitting-shaped : (d : Setting) (goal : Goal) → IsFitting d goal → IsOrderly goal → HasVariables d.program goal
    → IsShaped d goal
fitting-shaped d goal h o v = record {
  shape = record {
    below = h.below;
    vars = o.ordered.vars;
    fields = o.ordered.fields;
    formed = o.formed;
    form = o.form;
    reads = next-reads d.program goal v;
  };
  state = h.state;
  todo = todo-fits d goal.todo h.todo;
  variables = v;
}

-- WHAT A PROGRAM THAT IS SET UP has
module _ (laws : LawsBelow) (d : Setting) (up : IsSetUp d) where
  formed : IsFormed d.program
  formed = up.formed

  -- an annotation that is well formed fits in its order
  formed-annotation : (V : Var → Type 0) (a : Assertion) → AssertionWithin d.program.fields V a
      → ((o : Assertion) → IsOrderOf a o → AssertionWithin d.program.fields V o) → AnnotationFits d a
  formed-annotation V a w keeps =
      annotation-fits laws.decided laws.never laws.ordered d up.setting.ordering formed.field_count V a w keeps

  -- the invariant of a loop in a body
  formed-invariant : (g : Procedure) (a : Assertion) → AssertionWithin d.program.fields (IsInBody d.program g) a
      → AnnotationFits d a
  formed-invariant g a w =
      formed-annotation (IsInBody d.program g) a w (λ o i. laws.form.loop d.program g a o i w)

  pub formed-program : ProgramFits d
  formed-program = record {
    procedures = λ k g e. let w = formed.procedures k g e in (
      formed-annotation (IsParameter d.program g) g.pre w.pre
          (λ o i. laws.form.contract d.program g g.pre o i w.pre),
      formed-annotation (IsParameter d.program g) g.post w.post
          (λ o i. laws.form.contract d.program g g.post o i w.post),
    );
    resources = λ k r e. let w = formed.resources k r e in
        formed-annotation (IsOfResource k (length r.variables)) r.invariant w
        (λ o i. laws.form.resource d.program k (length r.variables) r.invariant o i w);
  }

  module _ (f : ProcId) (g : Procedure) (there : slice_get d.program.procedures f.0 ≡ Some g) where
    -- no condition on variables is broken, so parallel calls share nothing
    forks-apart : ForksApart d formed up.setting.sets laws.assigned g (formed.procedures f.0 g there)
        (formed-invariant g) (sites [] g.body)
    forks-apart s c e k x one two =
        (laws.breaches d.program formed).kept up.conditions f (ParallelShares e.0.place x)
        (g, there, (s, c, (e, k, refl, inl (inr one, inl (inr two)))))

    formed-body : BlockFits d g.body
    formed-body =
        block-fits d formed up.setting.sets laws.assigned g (formed.procedures f.0 g there)
        (formed-invariant g) [] g.body (formed.procedures f.0 g there).body forks-apart

    first-is : IsShaped d (first_goal d f g)
    first-is =
        let fits = formed-program.procedures f.0 g there in
        fitting-shaped d (first_goal d f g)
        (first-shaped d formed up.setting.sets laws.held f g there formed-program formed-body)
        (first-orderly d f g fits.0) (first-variables d up laws.breaches f g there)

  -- the goals that a row leaves
  left-is : (laws_of_rows : RowLaws) (goal : Goal) (tag : Tag) (left : List Goal) → IsShaped d goal
      → Leaves d goal tag left → AllByRecursion (IsLeft d goal.state) left
  unfolding RowsHaveCases
  left-is laws_of_rows goal tag left h e =
      let cases = laws_of_rows.cases d goal tag left (leaves-row d goal tag left e) in
      both left (cases-keep d formed-program goal left (shaped-fitting d goal h) cases)
      (rows-orderly laws_of_rows d formed-program goal left h cases) (rows-have laws_of_rows d goal left h cases)
    where
      both : (left : List Goal) → AllKeep d goal.state left → AllOrderly left → AllHave d.program left
          → AllByRecursion (IsLeft d goal.state) left
      both [] k o v = tt
      both (g ∷ gs) k o v = (
        record { shaped = fitting-shaped d g k.0.shaped o.0 v.0; symbols = k.0.symbols; atoms = k.0.atoms },
        both gs k.1 o.1 v.1,
      )

-- THE LAWS
pub first_goals_are_shaped : LawsBelow → FirstGoalsAreShaped
unfolding FirstGoalsAreShaped
first_goals_are_shaped laws d up f g there = first-is laws d up f g there

pub first_goals_are_small : HeldResourcesAreThere → FirstGoalsAreSmall
unfolding FirstGoalsAreSmall
first_goals_are_small held d up f g there = (
  first-symbols d up.formed up.setting.sets held f g there,
  first-atom d up.formed up.setting.sets held f g,
)

pub rows_keep_shape : LawsBelow → RowLaws → RowsKeepShape
unfolding RowsKeepShape
rows_keep_shape laws laws_of_rows d up goal tag left h e = left-is laws d up laws_of_rows goal tag left h e

-- one of several that are left
left-one : (d : Setting) (s : State) (left : List Goal) (goal : Goal) → AllByRecursion (IsLeft d s) left
    → Contains left goal → IsLeft d s goal
left-one d s [] goal k c = absurd (contains-nil goal c)
left-one d s (g ∷ gs) goal k c = elim ((contains-cons g gs goal).0 c) [
  | inl here ↦ subst (IsLeft d s) here k.0
  | inr there ↦ left-one d s gs goal k.1 there
]

pub goals_are_shaped : FirstGoalsAreShaped → RowsKeepShape → GoalsAreShaped
unfolding FirstGoalsAreShaped RowsKeepShape GoalsAreShaped
goals_are_shaped first keep d up f g there = grown
  where
    grown : (tags : ℕ) (goal : Goal) → IsGoalAfter d (first_goal d f g) tags goal
        → IsGrown d (first_goal d f g) tags goal
    grown zero goal e =
        subst (IsGrown d (first_goal d f g) zero) (sym e)
        (record { shaped = first d up f g there; symbols = omega arith; atoms = omega arith })
    grown (suc n) goal (before, after, tag, left, row, among) =
        let k = grown n before after in
        let m = left-one d before.state left goal (keep d up before tag left k.shaped row) among in
        record {
          shaped = m.shaped;
          symbols = omega (arith, m.symbols, k.symbols);
          atoms = omega (arith, m.atoms, k.atoms);
        }
