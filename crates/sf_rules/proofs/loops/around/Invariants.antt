use Rattle.sf_rules.proofs.loops.around.Given as goal

abbrev pub ghost-with_unknown : goal.ghost-with_unknown
ghost-with_unknown g a = g.d

abbrev pub ghost-body_once : goal.ghost-body_once
ghost-body_once g a = g.d

abbrev pub ghost-after_loop : goal.ghost-after_loop
ghost-after_loop g a = g.d
