use Rattle.sf_turns.proofs.forks.fork_at.Goals as goal

pub returns : goal.returns
returns c = (c.args.at.task, c.requires, rw c.in-Some.is at c.in_ok-parted.ensures)
