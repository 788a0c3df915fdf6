use Rattle.sf_rules.proofs.loops.body_once.Given as goal

abbrev pub ghost-with_invariant : goal.ghost-with_invariant
ghost-with_invariant g a = g.d
