use Rattle.sf_rules.proofs.children.apply_row.Given as goal

abbrev pub ghost-children_by_row : goal.ghost-children_by_row
ghost-children_by_row g a = g.d
