-- Laws of the rules: the table as a function, which the code computes, says the same as the rules, in both directions.
-- Ordinary: a family by cases and the function that decides it.
use Rattle.std.specs.Prelude.{◌≡◌, Some, List}
use Rattle.sf_rules.specs.Checked.Rows.Whole.{row}
use Rattle.sf_rules.specs.Rules.{Leaves}
use Rattle.sf_rules.specs.Setting.{Setting}
use Rattle.sf_sym.specs.declared.tag.Tag.{Tag}
use Rattle.sf_sym.specs.Goal.{Goal}

-- each rule is a row
unfoldable pub RulesAreRows : Type 0
RulesAreRows =
    (d : Setting) (g : Goal) (tag : Tag) (left : List Goal) → Leaves d g tag left → row d g tag ≡ Some left

-- each row is a rule
unfoldable pub RowsAreRules : Type 0
RowsAreRules =
    (d : Setting) (g : Goal) (tag : Tag) (left : List Goal) → row d g tag ≡ Some left → Leaves d g tag left
