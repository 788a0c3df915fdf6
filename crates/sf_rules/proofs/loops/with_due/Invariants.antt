use Rattle.sf_rules.proofs.loops.with_due.Given as goal

abbrev pub ghost-pending_in_order : goal.ghost-pending_in_order
ghost-pending_in_order g a = g.d
