-- The laws of the rules, and what an answer says by them.
-- Names: the laws'; `CASE_leaves` of an answer.
use Rattle.std.proofs.Common.{◌≡◌, Some, None, sym, ◌∙◌}
use Rattle.std.specs.Prelude.{IfErr, IfOk}
use Rattle.std.specs.declared.result.Result.{Result}
use Rattle.std.specs.declared.result.Result.TheVariants.{Ok, Err}
use Rattle.sf_rules.specs.Checked.Children.{children_of}
use Rattle.sf_rules.specs.Checked.Rows.Whole.{row}
use Rattle.sf_rules.specs.declared.children.Children.{Children}
use Rattle.sf_rules.specs.declared.children.RuleFault.{RuleFault}
use Rattle.sf_rules.specs.declared.children.RuleFault.TheVariants.{NotARule}
use Rattle.sf_rules.specs.Rules.{HasNoRule, Leaves}
use Rattle.sf_rules.specs.Setting.{Setting}
use Rattle.sf_sym.specs.declared.tag.Tag.{Tag}
use Rattle.sf_sym.specs.Goal.{Goal}
use Rattle.sf_rules.specs.Checked.LawsOfRules.{RowsAreRules, RulesAreRows}
use Rattle.sf_rules.specs.Checked.Lemmas.RowRules.{row-leaves}
use Rattle.sf_rules.specs.Checked.Lemmas.RuleRows.{leaves-row}

pub rules_are_rows : RulesAreRows
unfolding RulesAreRows
rules_are_rows d g tag left l = leaves-row d g tag left l

pub rows_are_rules : RowsAreRules
unfolding RowsAreRules
rows_are_rules d g tag left e = row-leaves d g tag left e

-- an answer of the function as one of the rules
pub ok_leaves : (d : Setting) (g : Goal) (tag : Tag) (r : Result Children RuleFault)
    → IfOk r (λ left. row d g tag ≡ Some (children_of left))
    → IfOk r (λ left. Leaves d g tag (children_of left))
ok_leaves d g tag (Ok left) e = row-leaves d g tag (children_of left) e
ok_leaves d g tag (Err fault) e = tt

pub none_leaves : (d : Setting) (g : Goal) (tag : Tag) → row d g tag ≡ None → HasNoRule d g tag
none_leaves d g tag e left l =
    absurd (let f : Some left ≡ None = sym (leaves-row d g tag left l) ∙ e in cc)

pub err_leaves : (d : Setting) (g : Goal) (tag : Tag) (r : Result Children RuleFault)
    → IfErr r (λ e. e ≡ NotARule → row d g tag ≡ None)
    → IfErr r (λ e. e ≡ NotARule → HasNoRule d g tag)
err_leaves d g tag (Ok left) e = tt
err_leaves d g tag (Err fault) e = λ i. none_leaves d g tag (e i)
