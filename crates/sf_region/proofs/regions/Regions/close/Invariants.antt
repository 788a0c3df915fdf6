use Rattle.std.proofs.Common.{[], ◌∷◌}
use Rattle.sf_region.proofs.regions.Regions.close.Given as goal

abbrev pub ghosts-note_word : goal.ghosts-note_word
ghosts-note_word a = record { parts = a.part.now ∷ [] }

abbrev pub ghosts-bury_word : goal.ghosts-bury_word
ghosts-bury_word a = record { views = a.seat.now.me.0 ∷ [] }
