use Rattle.std.proofs.Common.{◌≡◌, ◌<◌, ℕ, length, subst, arith}
use Rattle.sf_base.specs.declared.ids.ResId.{ResId}
use Rattle.sf_calls.specs.Sets.{IsSetOf, IsEarlierResource}
use Rattle.sf_calls.specs.Checked.Lemmas.InOrder.{next_resource}
use Rattle.sf_calls.proofs.keys.resources_of.Goals as goal

pub loop-i-preserved : goal.loop-i-preserved
loop-i-preserved c =
    rw c.in_ok-push.ensures.items (next_resource c.loop-i.i c.loop-i.found.items c.loop-i.invariant)

pub returns : goal.returns
returns c =
    let all : c.loop-i.i ≡ length c.args.p.now.resources.items = omega arith in
    subst (λ (n : ℕ). IsSetOf IsEarlierResource (λ (r : ResId). r.0 < n) c.loop-i.found.items) all
    c.loop-i.invariant
