use Rattle.sf_turns.specs.Checked.Seats.{Seen}
use Rattle.sf_turns.specs.Checked.Trees.{HasGrown}
use Rattle.sf_turns.proofs.orders.joined_in_order.Given as goal

-- what has grown has grown on
abbrev pub invariant-loop-number : goal.invariant-loop-number
invariant-loop-number l = (k : Seen) → HasGrown l.fn.p l.fn.regions k l.fn.tree
    → HasGrown l.fn.p l.fn.regions k l.tree
