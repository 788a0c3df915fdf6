use Rattle.sf_turns.proofs.seated.Seated.forked.Goals as goal

pub returns : goal.returns
returns c = rw c.in-Some.is at c.in_ok-three.ensures
