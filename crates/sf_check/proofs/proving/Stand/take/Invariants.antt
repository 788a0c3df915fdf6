use Rattle.sf_check.proofs.proving.Stand.take.Given as goal

abbrev pub ghost-take_at : goal.ghost-take_at
ghost-take_at g a = g.d

abbrev pub ghost-begin : goal.ghost-begin
ghost-begin g a = g.d
