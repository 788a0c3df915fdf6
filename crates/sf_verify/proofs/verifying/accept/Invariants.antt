use Rattle.sf_verify.proofs.verifying.accept.Given as goal

abbrev pub ghost-check : goal.ghost-check
ghost-check g a = g.d
