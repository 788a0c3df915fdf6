use Rattle.std.proofs.Common.{[], ◌∷◌}
use Rattle.sf_region.proofs.regions.Regions.split.Given as goal

abbrev pub ghosts-fork_word : goal.ghosts-fork_word
ghosts-fork_word a = record { parts = a.part.now ∷ a.left.now ∷ a.right.now ∷ [] }
