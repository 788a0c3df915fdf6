use Rattle.sf_rules.proofs.children.children_by_row.Given as goal

abbrev pub ghost-row_of : goal.ghost-row_of
ghost-row_of g a = g.d
