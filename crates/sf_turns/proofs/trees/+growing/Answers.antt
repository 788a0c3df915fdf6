use Rattle.std.proofs.Common.{arith, rules}
use Rattle.sf_base.proofs.Results.{ok-some}
use Rattle.sf_turns.proofs.Grown.{parted-after}
use Rattle.sf_turns.specs.Checked.Kept.{parted_of}
use Rattle.sf_turns.specs.Checked.Parting.{HasParted}
use Rattle.sf_turns.specs.Checked.Seats.{Seen}
use Rattle.sf_turns.specs.Checked.Trees.{HasGrown}
use Rattle.sf_turns.proofs.trees.+growing.Goals as goal

pub grown-grown_below-requires : goal.grown-grown_below-requires
grown-grown_below-requires t c = (
  search (rules, arith),
  (c.in_ok-task.task.task, rw c.in-Some.is at c.in_ok-forked.ensures),
)

pub grown-returns : goal.grown-returns
grown-returns t c =
    let forked = rw c.in-Some.is at c.in_ok-forked.ensures in
    let parted =
    parted-after c.args.p.now c.args.regions.now c.going_composes.ensures c.args.task.task
    c.in_ok-task.task.task (parted_of c.in-Some.forked) c.in_ok-task.ensures forked in
    ok-some c.grown_below.result
    (λ tree. (k : Seen) → HasParted c.args.p.now c.args.regions.now k (parted_of c.in-Some.forked)
    → HasGrown c.args.p.now c.args.regions.now k tree)
    (HasGrown c.args.p.now c.args.regions.now c.args.task.task)
    (λ tree h. h c.args.task.task parted)
    c.grown_below.ensures

pub grown_below-returns : goal.grown_below-returns
grown_below-returns t c =
    let left = rw c.in-Some.is at c.in_ok-left.ensures in
    let right = rw c.in-Some-2.is at c.in_ok-right.ensures in
    λ k h. c.in_ok-tree.ensures c.args.p.now c.args.regions.now k
    (c.args.forked.left.task, c.args.forked.right.task, h, left, right)
