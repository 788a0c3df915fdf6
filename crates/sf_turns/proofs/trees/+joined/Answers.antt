use Rattle.std.specs.Prelude.{◌+◌, ◌<◌}
use Rattle.std.proofs.Common.{arith, rules, subst, sym}
use Rattle.sf_base.proofs.Results.{ok-some}
use Rattle.sf_turns.proofs.Grown.{falls-alike, forks_in, left-falls, right-falls}
use Rattle.sf_turns.specs.Checked.Seats.{Seen}
use Rattle.sf_turns.specs.Checked.Trees.{HasBranched, HasGrown}
use Rattle.sf_turns.proofs.trees.+joined.Goals as goal

pub joined-requires : goal.joined-requires
joined-requires t c =
    let h = rw c.in-Waits.is at c.requires.1 in
    let falls = falls-alike c.in-Waits.is c.into_inner-left.ensures
    (left-falls (forks_in c.in-Waits.left.value) (forks_in c.in-Waits.right.value)) in (
      search (rules, arith, falls),
      (h.0, subst (HasGrown c.args.p.now c.args.regions.now h.0) (sym c.into_inner-left.ensures) h.3),
    )

pub returns-then-number-before : goal.returns-then-number-before
returns-then-number-before t c =
    let joins = rw c.in-Some.is at c.in_ok-left.ensures in
    λ k g.
    let h = rw c.in-Waits.is at g in
    c.in_ok-tree.ensures c.args.p.now c.args.regions.now k (
      h.0,
      h.1,
      h.2,
      joins h.0 (subst (HasGrown c.args.p.now c.args.regions.now h.0) (sym c.into_inner-left.ensures) h.3),
      subst (HasGrown c.args.p.now c.args.regions.now h.1) (sym c.into_inner-right.ensures) h.4,
    )

pub run_again-requires : goal.run_again-requires
run_again-requires t c =
    let h = rw c.in-Waits.is at c.requires.1 in (
      c.requires.0,
      (
        h.0,
        h.1,
        h.2,
        subst (HasGrown c.args.p.now c.args.regions.now h.0) (sym c.into_inner-left.ensures) h.3,
        subst (HasGrown c.args.p.now c.args.regions.now h.1) (sym c.into_inner-right.ensures) h.4,
      ),
    )

pub returns-then-due-eq0 : goal.returns-then-due-eq0
returns-then-due-eq0 t c =
    ok-some c.run_again.result
    (λ after. (k : Seen) → HasBranched c.args.p.now c.args.regions.now k c.in-Waits.waits
    c.into_inner-left.result c.into_inner-right.result
    → HasGrown c.args.p.now c.args.regions.now k after)
    (λ after. (k : Seen) → HasGrown c.args.p.now c.args.regions.now k c.args.tree
    → HasGrown c.args.p.now c.args.regions.now k after)
    (λ after on k g.
    let h = rw c.in-Waits.is at g in
    on k (
      h.0,
      h.1,
      h.2,
      subst (HasGrown c.args.p.now c.args.regions.now h.0) (sym c.into_inner-left.ensures) h.3,
      subst (HasGrown c.args.p.now c.args.regions.now h.1) (sym c.into_inner-right.ensures) h.4,
    ))
    c.run_again.ensures

pub joined-requires-2 : goal.joined-requires-2
joined-requires-2 t c =
    let h = rw c.in-Waits.is at c.requires.1 in
    let falls = falls-alike c.in-Waits.is c.into_inner-right.ensures
    (right-falls (forks_in c.in-Waits.left.value) (forks_in c.in-Waits.right.value)) in (
      search (rules, arith, falls),
      (h.1, subst (HasGrown c.args.p.now c.args.regions.now h.1) (sym c.into_inner-right.ensures) h.4),
    )

pub returns : goal.returns
returns t c =
    let joins = rw c.in-Some-2.is at c.in_ok-right.ensures in
    λ k g.
    let h = rw c.in-Waits.is at g in
    c.in_ok-tree-2.ensures c.args.p.now c.args.regions.now k (
      h.0,
      h.1,
      h.2,
      subst (HasGrown c.args.p.now c.args.regions.now h.0) (sym c.into_inner-left.ensures) h.3,
      joins h.1 (subst (HasGrown c.args.p.now c.args.regions.now h.1) (sym c.into_inner-right.ensures) h.4),
    )
