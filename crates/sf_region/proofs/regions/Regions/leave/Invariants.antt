use Rattle.std.proofs.Common.{[], ◌∷◌}
use Rattle.sf_region.proofs.regions.Regions.leave.Given as goal

abbrev pub ghosts-leave_word : goal.ghosts-leave_word
ghosts-leave_word a = record { parts = a.part.now ∷ [] }
