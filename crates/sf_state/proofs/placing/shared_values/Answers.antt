use Rattle.std.proofs.Common.{◌∙◌, ap, drop, take}
use Rattle.sf_state.proofs.Placed.{by_resource-more}
use Rattle.sf_state.proofs.placing.shared_values.Goals as goal

-- one more resource has its values
pub loop-resource-preserved : goal.loop-resource-preserved
loop-resource-preserved c =
    by_resource-more c.args.resources.now c.loop-resource.resource-index c.resource-item.result
    c.loop-resource.shared.items c.push.new.self.items c.in_ok-from_slice.field-0 c.loop-resource.left.now
    c.split.result.1.now _ c.loop-resource-test.true c.resource-item.is c.in_ok-push.ensures.items
    (c.in_ok-from_slice.ensures.items ∙ c.split.ensures.first
    ∙ ap (λ n. take n c.loop-resource.left.now) (c.len.ensures ∙ c.resource-item.result.variables.ok.0))
    (c.split.ensures.rest ∙ ap (λ n. drop n c.loop-resource.left.now) (c.len.ensures ∙ c.resource-item.result.variables.ok.0)) c.loop-resource.invariant
