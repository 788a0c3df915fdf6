use Rattle.sf_sym.specs.Goal.{goal_of}
use Rattle.sf_rules.proofs.RuleLaws.{err_leaves, ok_leaves}
use Rattle.sf_rules.proofs.children.apply_row.Goals as goal

-- what the table's function says, as one of the rules
pub returns-clause-leaves : goal.returns-clause-leaves
returns-clause-leaves g c =
    ok_leaves g.d (goal_of c.args.goal) c.args.tag c.children_by_row.result c.children_by_row.ensures.ok

pub returns-clause-no_rule : goal.returns-clause-no_rule
returns-clause-no_rule g c =
    err_leaves g.d (goal_of c.args.goal) c.args.tag c.children_by_row.result c.children_by_row.ensures.err
