use Rattle.sf_turns.proofs.forks.join.Goals as goal

pub join_ended-requires : goal.join_ended-requires
join_ended-requires c =
    let both = rw c.in-Some.is at c.in_ok-both.ensures in
    (c.requires.0, both c.requires.0 c.requires.1)

pub returns : goal.returns
returns c =
    let both = rw c.in-Some.is at c.in_ok-both.ensures in
    let joined = rw c.in-Some-2.is at c.in_ok-task.ensures in
    λ k h. joined k (both k h)
