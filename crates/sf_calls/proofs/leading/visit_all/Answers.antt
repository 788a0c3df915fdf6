use Rattle.std.proofs.Common.{take}
use Rattle.std.proofs.lemmas.List.{take_more}
use Rattle.sf_calls.specs.Checked.Lemmas.Searches.{visited_both, proc}
use Rattle.sf_calls.proofs.leading.visit_all.Goals as goal

pub loop-f-preserved : goal.loop-f-preserved
loop-f-preserved c =
    rw (take_more c.args.fs.now c.loop-f.f-index (proc 0) c.loop-f-test.true)
    (visited_both (take c.loop-f.f-index c.args.fs.now) _ _ _ _ _ _ _ c.loop-f.invariant
    c.in_ok-visit.ensures)
