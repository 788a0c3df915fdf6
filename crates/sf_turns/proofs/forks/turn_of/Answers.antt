use Rattle.sf_turns.proofs.Parted.{parted-left, parted-right}
use Rattle.sf_turns.proofs.forks.turn_of.Goals as goal

pub returns-in_ok-left-in-Left : goal.returns-in_ok-left-in-Left
returns-in_ok-left-in-Left c = λ k h.
    parted-left c.args.p.now c.args.regions.now c.children_go_on.ensures k c.args.parted
    c.in_ok-left-in-Left.left h c.in_ok-left-in-Left.ensures.gone

pub returns-in_ok-right-in-Right : goal.returns-in_ok-right-in-Right
returns-in_ok-right-in-Right c = λ k h.
    parted-right c.args.p.now c.args.regions.now c.children_go_on.ensures k c.args.parted
    c.in_ok-right-in-Right.right h c.in_ok-right-in-Right.ensures.gone
