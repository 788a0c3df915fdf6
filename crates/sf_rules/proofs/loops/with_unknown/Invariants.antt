use Rattle.sf_rules.proofs.loops.with_unknown.Given as goal

abbrev pub ghost-unknown_in : goal.ghost-unknown_in
ghost-unknown_in g a = g.d
