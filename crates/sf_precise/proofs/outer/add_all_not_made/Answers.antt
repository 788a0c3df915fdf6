use Rattle.std.proofs.Common.{◌∙◌, not, ap, filter, ◌++◌}
use Rattle.sf_base.proofs.Lists.{flat_map-more}
use Rattle.sf_core.specs.Assertions.Scopes.{is_made_by}
use Rattle.sf_precise.proofs.outer.add_all_not_made.Goals as goal

pub loop-ns-preserved : goal.loop-ns-preserved
loop-ns-preserved c =
    flat_map-more (λ ns. filter (λ n. not (is_made_by c.args.made n)) ns.items) c.args.lists.now
    c.loop-ns.ns-index c.ns-item.result c.loop-ns.found.items _ _ c.loop-ns-test.true c.ns-item.is
    (c.in_ok-add_not_made.ensures ∙ ap (λ ns. c.loop-ns.found.items
    ++ filter (λ n. not (is_made_by c.args.made n)) ns) c.deref.ensures.value) c.loop-ns.invariant
