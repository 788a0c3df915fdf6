use Rattle.std.proofs.Common.{◌||◌, ◌+◌, ◌∙◌, ap, drop, get_or, nat_cmp, sym}
use Rattle.std.specs.BTreeSet.{contains}
use Rattle.sf_foot.proofs.Founds.{marks_more, marks_next, read_at}
use Rattle.sf_foot.proofs.found.add_all.Goals as goal

-- one more is in the set
pub loop-l-preserved : goal.loop-l-preserved
loop-l-preserved c = λ q.
    let i = c.loop-l.l-index in
    let at = c.args.at.now in
    marks_more c.loop-l.taken c.insert.new.self (get_or at i 0) (drop (i + 1) at) q
    (c.in_ok-insert.ensures.updates.0 q)
    ∙ ap (λ b. contains nat_cmp c.loop-l.taken q || b)
    (sym (marks_next at i (get_or at i 0) q c.loop-l-test.true (read_at at i 0 c.loop-l-test.true)))
    ∙ c.loop-l.invariant q
