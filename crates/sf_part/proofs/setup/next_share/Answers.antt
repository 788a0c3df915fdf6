use Rattle.std.proofs.Common.{slice_get}
use Rattle.sf_base.proofs.Options.{some-holds}
use Rattle.sf_core.specs.Program.ProgramView.{program_of}
use Rattle.sf_core.specs.Program.Syntax.{Resource}
use Rattle.sf_core.specs.Program.View.{assertion_of}
use Rattle.sf_foot.specs.Variables.{value_of}
use Rattle.sf_precise.specs.Order.{IsOrderOf}
use Rattle.sf_part.proofs.Handed.{next-none, next-share}
use Rattle.sf_part.proofs.setup.next_share.Goals.{After-invariant}
use Rattle.sf_part.proofs.setup.next_share.Goals as goal

-- what was put in order is the resource's invariant
ordered : (c : After-invariant)
    → IsOrderOf (c.requires.there.0).invariant (assertion_of c.invariant.result.now.assertion)
ordered c = some-holds
    (λ (h : Resource). IsOrderOf h.invariant (assertion_of c.invariant.result.now.assertion))
    (slice_get (program_of c.args.p.now.program).resources c.args.r.0) c.requires.there.0
    c.requires.there.1 c.invariant.ensures

pub returns-then-branch-clause-ok : goal.returns-then-branch-clause-ok
returns-then-branch-clause-ok c =
    let p = program_of c.args.p.now.program in
    let ord = ordered (goal.at.returns-then-branch-clause-ok c).After-invariant in
    next-share c.order_keeps_meaning.ensures c.ordered_is_determined.ensures p c.args.r
    c.args.shared.now c.args.found.now c.take.new.self c.in_ok-store.store c.requires.there.0
    (assertion_of c.invariant.result.now.assertion) c.requires.there.1 ord
    (value_of c.in_ok-vars.vars) c.in_ok-vars.ensures c.in_ok-store.ensures
    (rw c.if-branch.true at (c.in_ok-take.ensures c.requires.apart))

pub returns-else-branch-clause-none : goal.returns-else-branch-clause-none
returns-else-branch-clause-none c = λ e.
    let p = program_of c.args.p.now.program in
    let ord = ordered (goal.at.returns-else-branch-clause-none c).After-invariant in
    next-none c.order_keeps_meaning.ensures c.ordered_is_determined.ensures p c.args.r
    c.args.shared.now c.args.found.now c.take.new.self c.in_ok-store.store c.requires.there.0
    (assertion_of c.invariant.result.now.assertion) c.requires.there.1 ord
    (value_of c.in_ok-vars.vars) c.in_ok-vars.ensures c.in_ok-store.ensures
    (rw c.if-branch.false at (c.in_ok-take.ensures c.requires.apart))
