use Rattle.sf_check.proofs.proving.Stand.begin.Given as goal

abbrev pub ghost-first_goal : goal.ghost-first_goal
ghost-first_goal g a = g.d
