-- What the tasks of a tree have to do with the one of which they have come.
-- O'Hearn (2007): the parallel rule, some levels down.
use Rattle.sf_precise.specs.declared.arranged.Arranged.{Arranged}
use Rattle.sf_turns.specs.Checked.Kept.{parted}
use Rattle.sf_turns.specs.Checked.Parting.{HasParted}
use Rattle.sf_turns.specs.Checked.Seats.{HasGone, Seen, Table}
use Rattle.sf_turns.specs.declared.seated.Seated.{Seated}
use Rattle.sf_turns.specs.declared.trees.TaskTree.{TaskTree, Runs, Waits'}

-- HasGrown: the task has gone on; or it has parted then, and these trees have come of its children
abbrev pub HasGrown : Arranged → Table → Seen → TaskTree → Type 0
HasGrown a t k (Runs j) = HasGone a t k j.task
HasGrown a t k (Waits' waits at left by right) = (l : Seen) × (r : Seen)
    × HasParted a t k (parted waits.task l r) × HasGrown a t l left × HasGrown a t r right

-- so it is of the second kind
abbrev pub HasBranched : Arranged → Table → (k : Seen) → Seated → (left right : TaskTree) → Type 0
HasBranched a t k waits left right = (l : Seen) × (r : Seen)
    × HasParted a t k (parted waits.task l r) × HasGrown a t l left × HasGrown a t r right
