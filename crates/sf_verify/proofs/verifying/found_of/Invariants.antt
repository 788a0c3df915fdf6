use Rattle.sf_verify.proofs.verifying.found_of.Given as goal

abbrev pub ghost-search : goal.ghost-search
ghost-search g a = g.K.Subject.setting
