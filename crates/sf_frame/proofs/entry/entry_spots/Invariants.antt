use Rattle.sf_frame.specs.Checked.Entries.{AreEntrySpots}
use Rattle.sf_frame.proofs.entry.entry_spots.Given as goal

-- so many are there
abbrev pub invariant-loop-i : goal.invariant-loop-i
invariant-loop-i l = AreEntrySpots l.i l.spots.items
