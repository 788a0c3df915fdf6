use Rattle.sf_rules.proofs.calls.fork.Given as goal

abbrev pub ghost-contract_of : goal.ghost-contract_of
ghost-contract_of g a = g.d
