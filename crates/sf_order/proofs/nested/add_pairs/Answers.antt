use Rattle.sf_order.proofs.Rows.{pairs-complete, pairs-ordered, pairs-passed, pairs-pushed}
use Rattle.sf_order.proofs.nested.add_pairs.Goals as goal
use Rattle.sf_order.proofs.nested.add_pairs.Goals.{then-marked+in_ok-push, else-marked}

pub loop-q-preserved : goal.loop-q-preserved
loop-q-preserved c = elim c.if-marked.branch [
  | then-marked+in_ok-push w ↦
      rw (w.pairs-is, w.in_ok-push.ensures.items) (record {
        ordered =
            pairs-ordered c.args.r c.args.row.now c.args.pairs.now.items c.requires.before c.loop-q.q
            c.loop-q.pairs.items c.loop-q.invariant.ordered c.loop-q.invariant.members;
        members =
            pairs-pushed c.args.r c.args.row.now c.args.pairs.now.items c.requires.before c.loop-q.q
            c.loop-q.pairs.items c.loop-q-test.true w.if-marked.true c.loop-q.invariant.members;
      })
  | else-marked w ↦
      rw w.pairs-is (record {
        ordered = c.loop-q.invariant.ordered;
        members =
            pairs-passed c.args.r c.args.row.now c.args.pairs.now.items c.requires.before c.loop-q.q
            c.loop-q.pairs.items c.loop-q-test.true w.if-marked.false c.loop-q.invariant.members;
      })
]

pub returns-clause-members : goal.returns-clause-members
returns-clause-members c =
    pairs-complete c.args.r c.args.row.now c.args.pairs.now.items c.requires.before c.loop-q.q c.loop-q.pairs.items
    c.loop-q-test.false c.loop-q.invariant.members
