use Rattle.std.proofs.Common.{◌≡◌, ◌<◌, ◌^◌, ℕ, length, map, slice_get, Some, ap, sym, ◌∙◌, subst, rules, arith}
use Rattle.sf_base.proofs.Lookup.{get-read_map}
use Rattle.sf_core.specs.Program.Formed.{variable_count}
use Rattle.sf_core.specs.Program.View.{resource_of}
use Rattle.sf_core.specs.Program.ProgramView.{program_of}
use Rattle.sf_calls.specs.Checked.Gathers.{IsUpTo}
use Rattle.sf_calls.specs.Sets.{IsSetOf, IsEarlier}
use Rattle.sf_calls.specs.Checked.Lemmas.InOrder.{next_variables, no_variables, variables_bound}
use Rattle.sf_calls.proofs.keys.variables_of.Goals as goal

pub loop-i-init : goal.loop-i-init
loop-i-init c =
    rw c.new-found.ensures.items
    (no_variables (λ k. variable_count (slice_get (program_of c.args.p.now).resources k)))

pub add_variables-requires : goal.add_variables-requires
add_variables-requires c =
    let at : slice_get (map resource_of c.args.p.now.resources.items) c.loop-i.i
    ≡ Some (resource_of c.resource-item.result) =
    get-read_map resource_of c.args.p.now.resources.items c.deref-resource-items.result.now c.loop-i.i
    c.resource-item.result c.deref-resource-items.ensures.value c.loop-i-test.true c.resource-item.is in
    let bound : length c.resource-item.result.variables.items < 2 ^ 32 = variables_bound
    (program_of c.args.p.now) c.loop-i.i (resource_of c.resource-item.result) c.args.p.now.formed at in
    let same : c.len.result ≡ length c.resource-item.result.variables.items = search rules in
    omega (arith, bound, same)

pub loop-i-preserved : goal.loop-i-preserved
loop-i-preserved c =
    let at : slice_get (map resource_of c.args.p.now.resources.items) c.loop-i.i
    ≡ Some (resource_of c.resource-item.result) =
    get-read_map resource_of c.args.p.now.resources.items c.deref-resource-items.result.now c.loop-i.i
    c.resource-item.result c.deref-resource-items.ensures.value c.loop-i-test.true c.resource-item.is in
    let same : c.len.result ≡ length c.resource-item.result.variables.items = search rules in
    next_variables (λ k. variable_count (slice_get (program_of c.args.p.now).resources k)) c.loop-i.i
    c.len.result c.add_variables.new.found.items
    (ap variable_count at ∙ sym same)
    (c.in_ok-add_variables.ensures (λ k. variable_count (slice_get (program_of c.args.p.now).resources k))
    c.loop-i.invariant)

pub returns : goal.returns
returns c =
    let all : c.loop-i.i ≡ length c.args.p.now.resources.items = omega
    (arith, c.loop-i-test.false, c.loop-i.auto.i-end, ap length c.deref-resource-items.ensures.value) in
    subst
    (λ (n : ℕ). IsSetOf IsEarlier (IsUpTo
    (λ k. variable_count (slice_get (program_of c.args.p.now).resources k)) n 0) c.loop-i.found.items)
    all c.loop-i.invariant
