use Rattle.sf_search.proofs.verdicts.follow.Given as goal

abbrev pub ghost-apply_row : goal.ghost-apply_row
ghost-apply_row g a = g.d
