use Rattle.std.proofs.Common.{◌≡◌, ◌≢◌, ◌≤◌, ◌∙◌, length, Some, slice_index_or, arith, refl, subst, sym}
use Rattle.std.proofs.lemmas.Bool.{false≢true}
use Rattle.std.specs.FinMap.{get, len}
use Rattle.sf_base.specs.declared.value.Value.TheVariants.{Nil as nil, Loc as loc}
use Rattle.sf_foot.specs.Checked.Walks.{DoubleWalk, Walking}
use Rattle.sf_foot.proofs.Walking.{double-elsewhere, walking-double, walking-double_end, walking-longer, walking-stuck}
use Rattle.sf_foot.proofs.walks.walk_double.Goals as goal

-- a cell that leads back elsewhere
pub returns-then-not-is_same-clause-no : goal.returns-then-not-is_same-clause-no
returns-then-not-is_same-clause-no c = λ e ls walk.
    let other : c.walk.at ≢ c.args.ends.to = λ e. false≢true (sym c.walk-test.true ∙ c.is_same.ensures.1 e) in
    let there : get c.args.heap.now c.in-Loc.l ≡ Some c.in-Some.here.now = sym c.in-Some.ensures in
    let apart : slice_index_or c.in-Some.here.now c.args.back.0 nil ≢ c.walk.before =
    λ e. false≢true (sym c.if-not-is_same.true ∙ c.is_same-in-walk.ensures.1 (c.get-leads.ensures ∙ e)) in
    absurd (walking-stuck _ _ _ _ c.walk.invariant
    (double-elsewhere c.args.heap.now c.args.next c.args.back c.args.ends.last c.args.ends.to c.walk.before
    c.walk.at c.in-Loc.l c.in-Some.here.now other c.in-Loc.is there apart) ls walk)

-- a walk of more locations than there are cells
pub returns-then-len-clause-no : goal.returns-then-len-clause-no
returns-then-len-clause-no c = λ e ls walk.
    let other : c.walk.at ≢ c.args.ends.to = λ e. false≢true (sym c.walk-test.true ∙ c.is_same.ensures.1 e) in
    let full : len c.args.heap.now ≤ length c.walk.found.items =
    omega (arith, c.if-len.true, c.len.ensures, c.len-in-walk.ensures, c.walk.found.ok.0) in
    walking-longer c.args.heap.now c.args.next c.args.back c.args.ends.last c.args.ends.to c.walk.before
    c.walk.at _ _ _ (len c.args.heap.now) other full c.walk.invariant ls walk

-- one cell further
pub walk-preserved : goal.walk-preserved
walk-preserved c =
    let whole = DoubleWalk c.args.heap.now c.args.next c.args.back c.args.ends.last c.args.ends.to
    c.args.ends.before c.args.ends.from in
    let other : loc c.in-Loc.l ≢ c.args.ends.to =
    λ e. false≢true (sym c.walk-test.true ∙ c.is_same.ensures.1 (c.in-Loc.is ∙ e)) in
    let there : get c.args.heap.now c.in-Loc.l ≡ Some c.in-Some.here.now = sym c.in-Some.ensures in
    let leads : slice_index_or c.in-Some.here.now c.args.back.0 nil ≡ c.walk.before =
    sym c.get-leads.ensures ∙ c.is_same-in-walk.ensures.0 c.if-not-is_same.false in
    let here = subst (λ a. Walking whole
    (DoubleWalk c.args.heap.now c.args.next c.args.back c.args.ends.last c.args.ends.to c.walk.before a)
    c.args.found.now.items c.walk.found.items) c.in-Loc.is c.walk.invariant in
    let step = walking-double c.args.heap.now c.args.next c.args.back c.args.ends.last c.args.ends.to
    c.walk.before (loc c.in-Loc.l) whole c.args.found.now.items c.walk.found.items c.in-Loc.l
    c.in-Some.here.now other refl there leads here in
    rw (c.get-at.ensures, c.in_ok-push.ensures.items) step

-- the end is met
pub returns-clause-yes : goal.returns-clause-yes
returns-clause-yes c = λ same. walking-double_end c.args.heap.now c.args.next c.args.back c.args.ends.last
    c.args.ends.to c.walk.before c.walk.at _ _ _ (c.is_same.ensures.0 c.walk-test.false)
    (c.is_same-2.ensures.0 same) c.walk.invariant
