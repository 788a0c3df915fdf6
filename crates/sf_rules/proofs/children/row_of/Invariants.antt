use Rattle.sf_rules.proofs.children.row_of.Given as goal

abbrev pub ghost-begin_loop : goal.ghost-begin_loop
ghost-begin_loop g a = g.d

abbrev pub ghost-around : goal.ghost-around
ghost-around g a = g.d

abbrev pub ghost-again : goal.ghost-again
ghost-again g a = g.d

abbrev pub ghost-call : goal.ghost-call
ghost-call g a = g.d

abbrev pub ghost-fork : goal.ghost-fork
ghost-fork g a = g.d

abbrev pub ghost-enter : goal.ghost-enter
ghost-enter g a = g.d

abbrev pub ghost-exit : goal.ghost-exit
ghost-exit g a = g.d
