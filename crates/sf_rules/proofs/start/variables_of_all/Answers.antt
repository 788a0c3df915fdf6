use Rattle.std.proofs.Common.{append-nil, ◌≡◌, ◌<◌, List, [], ◌∷◌, ◌++◌, None, length, sym, ap, ◌∙◌, rules, arith}
use Rattle.std.proofs.lemmas.Bool.Decides.{nat_tests}
use Rattle.std.proofs.lemmas.List.{length-map}
use Rattle.std.proofs.lemmas.List.{nil_from_length}
use Rattle.std.proofs.lemmas.Option.{slice_get_past}
use Rattle.std.specs.List.{flat_map, slice_get}
use Rattle.sf_base.proofs.Lookup.{get-read_map}
use Rattle.sf_base.specs.declared.ids.ResId.{ResId}
use Rattle.sf_core.specs.Program.ProgramView.{program_of}
use Rattle.sf_core.specs.Program.View.{resource_of}
use Rattle.sf_rules.specs.Resources.{variables_of}
use Rattle.sf_rules.proofs.FirstRows.{few_held, more_variables, no_variables}
use Rattle.sf_calls.specs.Checked.Lemmas.InOrder.{variables_bound}
use Rattle.sf_rules.proofs.start.variables_of_all.Goals as goal

pub add_variables-requires : goal.add_variables-requires
add_variables-requires c =
    let found = c.in-Some-get.ensures.lookup in
    let is = found.0 in
    let below : c.in-Some.r.now.0 < length c.deref.result.now = grind (arith, nat_tests) in
    let same = ap length c.deref-in-Some-get.ensures.value in
    let few = variables_bound (program_of c.args.p.now) c.in-Some.r.now.0 (resource_of c.in-Some-get.resource.now)
    c.args.p.now.formed
    (get-read_map resource_of c.args.p.now.resources.items c.deref.result.now c.in-Some.r.now.0
    c.in-Some-get.resource.now c.deref.ensures.value below found.1) in
    omega (arith, same, few)

pub loop-r-preserved-in_ok-add_variables : goal.loop-r-preserved-in_ok-add_variables
loop-r-preserved-in_ok-add_variables c =
    let found = c.in-Some-get.ensures.lookup in
    let is = found.0 in
    let below : c.in-Some.r.now.0 < length c.deref.result.now = grind (arith, nat_tests) in
    let left : c.loop-r.left.now ≡ c.in-Some.r.now ∷ c.in-Some.rest.now = search rules in
    more_variables (program_of c.args.p.now) c.in-Some.r.now c.in-Some.rest.now c.loop-r.left.now
    (flat_map (variables_of (program_of c.args.p.now)) c.args.rs.now) c.loop-r.found.items c.loop-r.invariant left
    (resource_of c.in-Some-get.resource.now) c.deref-in-Some-get.result.now c.add_variables.new.found.items
    (get-read_map resource_of c.args.p.now.resources.items c.deref.result.now c.in-Some.r.now.0
    c.in-Some-get.resource.now c.deref.ensures.value below found.1) c.deref-in-Some-get.ensures.value
    (search rules)

pub loop-r-preserved : goal.loop-r-preserved
loop-r-preserved c =
    let found = c.in_default-get.ensures.lookup in
    let left : c.loop-r.left.now ≡ c.in-Some.r.now ∷ c.in-Some.rest.now = search rules in
    let most = found.3 in
    let same = ap length c.deref.ensures.value in
    let count = length-map c.args.p.now.resources.items resource_of in
    let past : slice_get (program_of c.args.p.now).resources c.in-Some.r.now.0 ≡ None =
    slice_get_past (program_of c.args.p.now).resources c.in-Some.r.now.0 (omega (arith, most, same, count)) in
    no_variables (program_of c.args.p.now) c.in-Some.r.now c.in-Some.rest.now c.loop-r.left.now
    (flat_map (variables_of (program_of c.args.p.now)) c.args.rs.now) c.loop-r.found.items c.loop-r.invariant left
    past

pub returns-clause-few : goal.returns-clause-few
returns-clause-few c =
    let none : c.loop-r.left.now ≡ [] = nil_from_length _ c.in_default.ensures.cases in
    let all : c.loop-r.found.items ≡ flat_map (variables_of (program_of c.args.p.now)) c.args.rs.now =
    sym (c.loop-r.invariant ∙ ap (λ (rs : List ResId). c.loop-r.found.items ++ flat_map (variables_of (program_of c.args.p.now)) rs) none
    ∙ append-nil c.loop-r.found.items) in
    let few = few_held (program_of c.args.p.now) c.args.rs.now c.args.p.now.formed c.requires.rising c.requires.there in
    let same = ap length all in
    omega (arith, few, same)
