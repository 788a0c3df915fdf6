use Rattle.sf_rules.proofs.loops.again.Given as goal

abbrev pub ghost-with_due : goal.ghost-with_due
ghost-with_due g a = g.d
