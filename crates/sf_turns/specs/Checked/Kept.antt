-- The three tasks of a parallel call.
-- Ordinary: three tasks as the calls of forks name them.
use Rattle.sf_turns.specs.Checked.Seats.{Seen}
use Rattle.sf_turns.specs.declared.forks.Parted.{Parted}
use Rattle.sf_turns.specs.declared.seated.Forked.{Forked}

-- three tasks as those of a parallel call
abbrev pub parted : (waits left right : Seen) → Parted
parted waits left right = record { waits = waits; left = left; right = right }

-- three that are kept
abbrev pub parted_of : Forked → Parted
parted_of f = parted f.waits.task f.left.task f.right.task
