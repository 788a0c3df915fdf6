use Rattle.sf_verify.proofs.verifying.verify.Given as goal

abbrev pub ghosts-tags_of : goal.ghosts-tags_of
ghosts-tags_of g a = record { setting = g.d }

abbrev pub ghost-accept : goal.ghost-accept
ghost-accept g a = g.d
