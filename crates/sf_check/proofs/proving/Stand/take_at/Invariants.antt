use Rattle.sf_check.proofs.proving.Stand.take_at.Given as goal

abbrev pub ghost-apply_row : goal.ghost-apply_row
ghost-apply_row g a = g.d
