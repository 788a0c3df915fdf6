use Rattle.std.proofs.Common.{[], ◌∷◌}
use Rattle.sf_region.proofs.regions.Regions.tell_spent.Given as goal

abbrev pub ghosts-note_word : goal.ghosts-note_word
ghosts-note_word a = record { parts = a.part.now ∷ [] }
