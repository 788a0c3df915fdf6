use Rattle.sf_verify.proofs.workers.search_one.Given as goal

abbrev pub ghost-search : goal.ghost-search
ghost-search g a = g.K.Subject.setting
