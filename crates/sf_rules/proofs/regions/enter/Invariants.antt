use Rattle.sf_rules.proofs.regions.enter.Given as goal

abbrev pub ghost-region_of : goal.ghost-region_of
ghost-region_of g a = g.d
