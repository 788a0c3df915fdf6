use Rattle.std.proofs.Common.{[], Ok, ap, inr, refl, slice_get, subst, true}
use Rattle.sf_core.specs.Program.Syntax.{Procedure}
use Rattle.sf_core.specs.Program.ProgramView.{program_of}
use Rattle.sf_core.specs.Program.View.{assertion_of}
use Rattle.sf_foot.specs.Variables.{value_of}
use Rattle.sf_precise.specs.Order.{IsOrderOf}
use Rattle.sf_state.specs.declared.fault.StartFault.TheVariants.{Unmet}
use Rattle.sf_state.specs.Checked.Found.{AlsoFound}
use Rattle.sf_state.proofs.NextFound.{found-nothing, found-unmet, some-then}
use Rattle.sf_state.proofs.finding.find_pre.Goals as goal

-- the precondition is unmet
pub returns-then-not-branch : goal.returns-then-not-branch
returns-then-not-branch c =
    let p = program_of c.args.p.now.program in
    let vars = value_of c.args.vars.now in
    let heap = c.args.heap.now in
    let nothing = found-nothing vars heap c.new-found.result c.new-found.ensures.parts
    (c.new-found.ensures.apart heap) in
    some-then (λ (g : Procedure). IsOrderOf g.pre (assertion_of c.pre.result.now.assertion)) _
    (slice_get p.procedures c.args.f.0) c.pre.ensures
    (λ g e ord.
    let none = subst (λ found. AlsoFound [] g.pre vars heap c.new-found.result c.take_next.new.found (Ok found))
    c.if-not-branch.true (c.in_ok-take_next.ensures [] g.pre ord nothing) in
    inr (0, ap Unmet c.in_ok-name.ensures, found-unmet p g true vars heap c.new-found.result 0 g.pre nothing refl none))

-- or it is found
pub returns : goal.returns
returns c =
    let p = program_of c.args.p.now.program in
    let vars = value_of c.args.vars.now in
    let heap = c.args.heap.now in
    let nothing = found-nothing vars heap c.new-found.result c.new-found.ensures.parts
    (c.new-found.ensures.apart heap) in
    some-then (λ (g : Procedure). IsOrderOf g.pre (assertion_of c.pre.result.now.assertion)) _
    (slice_get p.procedures c.args.f.0) c.pre.ensures
    (λ g e ord. subst (λ found. AlsoFound [] g.pre vars heap c.new-found.result c.take_next.new.found (Ok found))
    c.if-not-branch.false (c.in_ok-take_next.ensures [] g.pre ord nothing))
