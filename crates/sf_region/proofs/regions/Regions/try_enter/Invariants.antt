use Rattle.std.proofs.Common.{[], ◌∷◌}
use Rattle.sf_region.proofs.regions.Regions.try_enter.Given as goal

abbrev pub ghosts-try_word : goal.ghosts-try_word
ghosts-try_word a = record { parts = a.part.now ∷ [] }
