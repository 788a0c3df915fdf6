use Rattle.std.proofs.Common.{[], ◌∷◌}
use Rattle.sf_region.proofs.regions.Regions.misses.Given as goal

abbrev pub ghosts-bury_word : goal.ghosts-bury_word
ghosts-bury_word a = record { views = a.seat.now.me.0 ∷ [] }
