use Rattle.sf_search.proofs.verdicts.search.Given as goal

abbrev pub ghost-first_goal : goal.ghost-first_goal
ghost-first_goal g a = g.d

abbrev pub ghost-search_from : goal.ghost-search_from
ghost-search_from g a = g.d
