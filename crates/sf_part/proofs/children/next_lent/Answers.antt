use Rattle.std.proofs.Common.{Err, ap, ◌≡◌, slice_get, arith}
use Rattle.std.proofs.lemmas.List.{length-map}
use Rattle.std.proofs.lemmas.Option.{slice_get_within}
use Rattle.sf_base.proofs.Options.{some-holds}
use Rattle.sf_core.specs.Program.ProgramView.{program_of}
use Rattle.sf_core.specs.Program.Syntax.{Procedure}
use Rattle.sf_core.specs.Program.View.{assertion_of, procedure_of}
use Rattle.sf_foot.specs.Variables.{value_of}
use Rattle.sf_frame.specs.Frames.{frame_of}
use Rattle.sf_frame.specs.Stores.{store_of}
use Rattle.sf_precise.specs.Order.{IsOrderOf}
use Rattle.sf_part.specs.declared.fault.PartFault.TheVariants.{NoFootprint}
use Rattle.sf_part.proofs.LentFound.{lent-next, lent-not_next}
use Rattle.sf_part.proofs.Named.{first-as}
use Rattle.sf_part.proofs.children.next_lent.Goals as goal

pub returns-in-Err-clause-none : goal.returns-in-Err-clause-none
returns-in-Err-clause-none c = λ e g there part just apart.
    let fault : c.in-Err.fault ≡ NoFootprint = cc in
    absurd (c.in-Err.ensures.none (ap Err fault) g there part just apart)

pub pre-requires : goal.pre-requires
pre-requires c =
    let within = slice_get_within (program_of c.args.p.now.program).procedures c.args.callee.0
    c.requires.first.0 c.requires.first.1.there in
    omega (arith, length-map c.args.p.now.program.procedures.items procedure_of)

pub returns-then-branch-clause-ok : goal.returns-then-branch-clause-ok
returns-then-branch-clause-ok c = λ g there.
    let p = program_of c.args.p.now.program in
    let first = first-as p c.args.callee (frame_of c.args.frame.now) c.requires.first.0 g
    c.requires.first.1 there in
    let just = c.in-Ok.ensures.ok g there in
    let many = c.own_count-count.ensures g there in
    let ord = some-holds
    (λ (h : Procedure). IsOrderOf h.pre (assertion_of c.pre.result.now.assertion))
    (slice_get p.procedures c.args.callee.0) g there c.pre.ensures in
    lent-next c.order_keeps_meaning.ensures c.ordered_is_determined.ensures p
    c.args.p.now.program.formed c.args.callee (frame_of c.args.frame.now) g first
    c.args.shared.now (store_of c.args.taken.now) c.args.found.now c.take.new.self c.in-Ok.store
    (assertion_of c.pre.result.now.assertion) ord (value_of c.in_ok-vars.vars)
    (λ n l. c.in_ok-vars.ensures.own n (omega arith)) c.in_ok-vars.ensures.shared just.0 just.1
    (rw c.if-branch.true at (c.in_ok-take.ensures c.requires.apart))

pub returns-else-branch-clause-none : goal.returns-else-branch-clause-none
returns-else-branch-clause-none c = λ _ g there.
    let p = program_of c.args.p.now.program in
    let first = first-as p c.args.callee (frame_of c.args.frame.now) c.requires.first.0 g
    c.requires.first.1 there in
    let just = c.in-Ok.ensures.ok g there in
    let many = c.own_count-count.ensures g there in
    let ord = some-holds
    (λ (h : Procedure). IsOrderOf h.pre (assertion_of c.pre.result.now.assertion))
    (slice_get p.procedures c.args.callee.0) g there c.pre.ensures in
    lent-not_next c.order_keeps_meaning.ensures c.ordered_is_determined.ensures p
    c.args.p.now.program.formed c.args.callee (frame_of c.args.frame.now) g first
    c.args.shared.now (store_of c.args.taken.now) c.args.found.now c.take.new.self c.in-Ok.store
    (assertion_of c.pre.result.now.assertion) ord (value_of c.in_ok-vars.vars)
    (λ n l. c.in_ok-vars.ensures.own n (omega arith)) c.in_ok-vars.ensures.shared just.0 just.1
    (rw c.if-branch.false at (c.in_ok-take.ensures c.requires.apart))
