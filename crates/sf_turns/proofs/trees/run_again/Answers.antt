use Rattle.sf_turns.proofs.Grown.{branch-parted}
use Rattle.sf_turns.proofs.trees.run_again.Goals as goal

pub rejoined-requires : goal.rejoined-requires
rejoined-requires c = (
  c.requires.0,
  branch-parted c.args.p.now c.args.regions.now c.children_go_on.ensures c.args.waits
      c.in-Some.both.0 c.in-Some.both.1 c.args.left c.args.right c.in-Some.ensures c.requires.0
      c.requires.1,
)

pub returns : goal.returns
returns c =
    let joins = rw c.in-Some-2.is at c.in_ok-task.ensures in
    λ k h. joins k
    (branch-parted c.args.p.now c.args.regions.now c.children_go_on.ensures c.args.waits
    c.in-Some.both.0 c.in-Some.both.1 c.args.left c.args.right c.in-Some.ensures k h)
