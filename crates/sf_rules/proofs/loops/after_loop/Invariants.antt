use Rattle.sf_rules.proofs.loops.after_loop.Given as goal

abbrev pub ghost-with_invariant : goal.ghost-with_invariant
ghost-with_invariant g a = g.d
