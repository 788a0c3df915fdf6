use Rattle.sf_rules.proofs.regions.exit.Given as goal

abbrev pub ghost-region_of : goal.ghost-region_of
ghost-region_of g a = g.d
