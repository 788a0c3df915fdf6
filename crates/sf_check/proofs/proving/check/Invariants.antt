use Rattle.sf_check.proofs.proving.check.Given as goal

abbrev pub ghost-take_all : goal.ghost-take_all
ghost-take_all g a = g.d
