use Rattle.std.proofs.Common.{arith}
use Rattle.std.proofs.lemmas.List.Elements.{All-contains_itself, All-weaker}
use Rattle.sf_heap.specs.Cells.{HasCell}
use Rattle.std.specs.List.{Contains}
use Rattle.sf_foot.specs.Variables.{value_of}
use Rattle.sf_foot.proofs.Feet.{foot-found, foot-none, foot-ready, foot-repeats, foot-there}
use Rattle.sf_foot.specs.Checked.Lemmas.Views.{view-level}
use Rattle.sf_foot.proofs.finding.footprint.Goals as goal

-- the conjuncts are in order
pub take_all-requires : goal.take_all-requires
take_all-requires c =
    foot-ready c.args.heap.now (value_of c.args.vars.now) c.args.a.now.assertion.level.made _ c.new-known.result
    c.new-known.ensures.told c.new-known.ensures.made
    (rw c.deref.ensures.value (rw (view-level c.args.a.now.assertion.level) at c.args.a.now.in_order))

-- no taking fits into the heap
pub returns-then-not-branch-clause-none : goal.returns-then-not-branch-clause-none
returns-then-not-branch-clause-none c = rw (view-level c.args.a.now.assertion.level)
    (foot-none c.args.heap.now (value_of c.args.vars.now) c.args.a.now.assertion.level.made _ c.new-known.result
    c.new-known.ensures.told
    (rw (c.new-found.ensures.items, c.deref.ensures.value) at (c.in_ok-take_all.ensures.no c.if-not-branch.true)))

-- a location comes twice
pub returns-then-len-count-clause-none : goal.returns-then-len-count-clause-none
returns-then-len-count-clause-none c = rw (view-level c.args.a.now.assertion.level)
    (foot-repeats c.args.heap.now (value_of c.args.vars.now) c.args.a.now.assertion.level.made _ c.new-known.result
    c.new-known.ensures.told _ _ c.take_all.new.found.items c.from_vec-locations.result
    (rw (c.new-found.ensures.items, c.deref.ensures.value) at (c.in_ok-take_all.ensures.yes c.if-not-branch.false))
    c.from_vec-locations.ensures.rising c.from_vec-locations.ensures.same
    (omega (arith, c.if-len-count.true, c.len.ensures, c.len-count.ensures, c.take_all.new.found.ok.0)))

-- all locations differ
pub returns-clause-found : goal.returns-clause-found
returns-clause-found c = rw (view-level c.args.a.now.assertion.level)
    (foot-found c.args.heap.now (value_of c.args.vars.now) c.args.a.now.assertion.level.made _ c.new-known.result
    c.new-known.ensures.told _ _ c.take_all.new.found.items c.from_vec-locations.result
    (rw (c.new-found.ensures.items, c.deref.ensures.value) at (c.in_ok-take_all.ensures.yes c.if-not-branch.false))
    c.from_vec-locations.ensures.rising c.from_vec-locations.ensures.same
    (omega (arith, c.if-len-count.false, c.len.ensures, c.len-count.ensures, c.take_all.new.found.ok.0)))

pub returns-clause-there : goal.returns-clause-there
returns-clause-there c = All-weaker (Contains c.from_vec-locations.result) (HasCell c.args.heap.now)
    (foot-there c.args.heap.now (value_of c.args.vars.now) c.args.a.now.assertion.level.made _ c.new-known.result
    c.new-known.ensures.told _ _ c.take_all.new.found.items c.from_vec-locations.result
    (rw (c.new-found.ensures.items, c.deref.ensures.value) at (c.in_ok-take_all.ensures.yes c.if-not-branch.false))
    c.from_vec-locations.ensures.rising c.from_vec-locations.ensures.same)
    c.from_vec-locations.result (All-contains_itself c.from_vec-locations.result)
