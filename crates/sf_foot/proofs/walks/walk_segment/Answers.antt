use Rattle.std.proofs.Common.{◌≡◌, ◌≢◌, ◌∙◌, Some, sym}
use Rattle.std.proofs.lemmas.Bool.{false≢true}
use Rattle.std.specs.FinMap.{get}
use Rattle.sf_foot.proofs.Walking.{walking-step, walking-end}
use Rattle.sf_foot.proofs.walks.walk_segment.Goals as goal

-- one cell further
pub walk-preserved : goal.walk-preserved
walk-preserved c =
    let other : c.walk.at ≢ c.args.to = λ e. false≢true (sym c.walk-test.true ∙ c.is_same.ensures.1 e) in
    let there : get c.args.heap.now c.in-Loc.l ≡ Some c.in-Some.cell.now = sym c.in-Some.ensures in
    let step = walking-step c.args.heap.now c.args.next c.args.to c.walk.at _ _ _ c.in-Loc.l c.in-Some.cell.now other c.in-Loc.is there c.walk.invariant in
    rw (c.get-at.ensures, c.in_ok-push.ensures.items) step

-- the end is met
pub returns-clause-yes : goal.returns-clause-yes
returns-clause-yes c = λ _. walking-end c.args.heap.now c.args.next c.args.to c.walk.at _ _ _ (c.is_same.ensures.0 c.walk-test.false) c.walk.invariant
