use Rattle.std.proofs.Common.{◌<◌, length, ap, arith}
use Rattle.std.proofs.lemmas.Bool.Decides.{nat_tests}
use Rattle.sf_base.proofs.Lookup.{get-read_map}
use Rattle.sf_core.specs.Program.ProgramView.{program_of}
use Rattle.sf_core.specs.Program.View.{assertion_of, resource_of}
use Rattle.sf_calls.specs.Checked.Lemmas.InOrder.{variables_bound}
use Rattle.sf_rules.proofs.RegionRows.{region_is}
use Rattle.sf_rules.proofs.regions.region_of.Goals as goal

pub returns-clause-some : goal.returns-clause-some
returns-clause-some g c =
    let found = c.in_ok-resource.ensures.lookup in
    let is = found.0 in
    let below : c.args.r.0 < length c.deref.result.now = grind (arith, nat_tests) in
    region_is g.d c.args.arranged.now c.args.r c.in_ok-resource.resource.now c.deref-2.result.now
    (assertion_of c.invariant.result.now.assertion) c.requires.0 c.requires.1
    (get-read_map resource_of c.args.arranged.now.program.resources.items c.deref.result.now c.args.r.0
    c.in_ok-resource.resource.now c.deref.ensures.value below found.1) c.deref-2.ensures.value c.invariant.ensures

pub returns-clause-few : goal.returns-clause-few
returns-clause-few g c =
    let found = c.in_ok-resource.ensures.lookup in
    let is = found.0 in
    let below : c.args.r.0 < length c.deref.result.now = grind (arith, nat_tests) in
    let same = ap length c.deref-2.ensures.value in
    let few = variables_bound (program_of c.args.arranged.now.program) c.args.r.0
    (resource_of c.in_ok-resource.resource.now) c.args.arranged.now.program.formed
    (get-read_map resource_of c.args.arranged.now.program.resources.items c.deref.result.now c.args.r.0
    c.in_ok-resource.resource.now c.deref.ensures.value below found.1) in
    omega (arith, same, few)
