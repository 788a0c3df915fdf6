use Rattle.std.proofs.Common.{◌+◌, Ok, ap, arith, inr, slice_get, subst, suc, take, false, true, inl, Err}
use Rattle.std.proofs.lemmas.List.{length-map}
use Rattle.sf_base.proofs.Options.{some-holds}
use Rattle.sf_core.specs.Program.Syntax.{Procedure, Resource}
use Rattle.sf_core.specs.Program.ProgramView.{program_of}
use Rattle.sf_core.specs.Program.View.{assertion_of, resource_of}
use Rattle.sf_foot.specs.Variables.{value_of}
use Rattle.sf_precise.specs.Order.{IsOrderOf}
use Rattle.sf_foot.specs.Starting.{assertions_of}
use Rattle.sf_state.specs.declared.fault.StartFault.TheVariants.{Unmet}
use Rattle.sf_state.specs.Checked.Found.{AlsoFound, AreFound, AllFound}
use Rattle.sf_state.proofs.NextFound.{found-all, next-found, next-unmet, some-then, there-at, unmet-more}
use Rattle.sf_state.proofs.finding.find_all.Goals as goal
use Rattle.sf_heap.specs.Cells.{heap_of}

-- the precondition is unmet, or memory runs out
pub returns-in-Err : goal.returns-in-Err
returns-in-Err c =
    let p = program_of c.args.p.now.program in
    some-then (λ (g : Procedure). AllFound p g true (value_of c.args.vars.now) c.args.heap.now (Err c.in-Err.fault)) _
    (slice_get p.procedures c.args.f.0) c.in-Err.ensures
    (λ g e h. elim h [
      | inl o ↦ inl o
      | inr u ↦ inr (u.0, u.1, unmet-more (value_of c.args.vars.now) (heap_of c.args.heap.now) g.pre _ u.0 u.2)
    ])

pub loop-r-init : goal.loop-r-init
loop-r-init c = c.in-Ok.ensures

-- the invariant of a resource is unmet
pub returns-then-not-branch : goal.returns-then-not-branch
returns-then-not-branch c =
    let p = program_of c.args.p.now.program in
    let vars = value_of c.args.vars.now in
    let heap = c.args.heap.now in
    let r = c.loop-r.r in
    let within = length-map c.args.p.now.program.resources.items resource_of in
    let here = there-at p.resources r (omega (arith, c.loop-r-test.true, c.len-r-end.ensures, c.args.p.now.program.resources.ok.0, within)) in
    let ord = some-holds (λ (h : Resource). IsOrderOf h.invariant (assertion_of c.invariant.result.now.assertion))
    (slice_get p.resources r) here.0 here.1 c.invariant.ensures in
    some-then (λ (g : Procedure). AreFound (take (r + 1) (assertions_of p g false)) vars heap c.loop-r.found) _
    (slice_get p.procedures c.args.f.0) c.loop-r.invariant
    (λ g e are.
    let none = subst (λ found. AlsoFound (take (r + 1) (assertions_of p g false)) here.0.invariant vars heap c.loop-r.found
    c.take_next.new.found (Ok found)) c.if-not-branch.true
    (c.in_ok-take_next.ensures (take (r + 1) (assertions_of p g false)) here.0.invariant ord are) in
    inr (suc r, ap Unmet c.in_ok-name.ensures, next-unmet p g vars heap c.loop-r.found r here.0 are here.1 none))

-- or it is found
pub loop-r-preserved : goal.loop-r-preserved
loop-r-preserved c =
    let p = program_of c.args.p.now.program in
    let vars = value_of c.args.vars.now in
    let heap = c.args.heap.now in
    let r = c.loop-r.r in
    let within = length-map c.args.p.now.program.resources.items resource_of in
    let here = there-at p.resources r (omega (arith, c.loop-r-test.true, c.len-r-end.ensures, c.args.p.now.program.resources.ok.0, within)) in
    let ord = some-holds (λ (h : Resource). IsOrderOf h.invariant (assertion_of c.invariant.result.now.assertion))
    (slice_get p.resources r) here.0 here.1 c.invariant.ensures in
    some-then (λ (g : Procedure). AreFound (take (r + 1) (assertions_of p g false)) vars heap c.loop-r.found) _
    (slice_get p.procedures c.args.f.0) c.loop-r.invariant
    (λ g e are. next-found p g vars heap c.take_next.new.found r here.0
    (subst (λ found. AlsoFound (take (r + 1) (assertions_of p g false)) here.0.invariant vars heap c.loop-r.found
    c.take_next.new.found (Ok found)) c.if-not-branch.false
    (c.in_ok-take_next.ensures (take (r + 1) (assertions_of p g false)) here.0.invariant ord are)) here.1)

pub returns : goal.returns
returns c =
    let p = program_of c.args.p.now.program in
    let vars = value_of c.args.vars.now in
    let heap = c.args.heap.now in
    let within = length-map c.args.p.now.program.resources.items resource_of in
    some-then (λ (g : Procedure). AreFound (take (c.loop-r.r + 1) (assertions_of p g false)) vars heap c.loop-r.found) _
    (slice_get p.procedures c.args.f.0) c.loop-r.invariant
    (λ g e are. found-all p g vars heap c.loop-r.found c.loop-r.r
    (omega (arith, c.loop-r-test.false, c.len-r-end.ensures, c.args.p.now.program.resources.ok.0, within)) are)
