use Rattle.std.proofs.Common.{◌∙◌, refl, subst, sym}
use Rattle.std.proofs.lemmas.Option.{slice_get_within}
use Rattle.sf_core.specs.Program.ProgramView.{program_of}
use Rattle.sf_part.specs.Contents.{content_of}
use Rattle.sf_part.specs.Going.{leaves, stays}
use Rattle.sf_part.specs.Leaving.{IsAtExit}
use Rattle.sf_region.specs.Calls.{MayLeave}
use Rattle.sf_region.specs.Waits.{program_in}
use Rattle.sf_region.proofs.Seating.{may-leave}
use Rattle.sf_region.proofs.Trying.{placed}
use Rattle.sf_region.proofs.Fresh.{fresh-left}
use Rattle.sf_region.proofs.task.Task.leave_region.Goals as goal

pub invariant_of-self : goal.invariant_of-self
invariant_of-self c =
    let p = program_of c.args.p.now.program in
    let a = c.make_room.new.self in
    let h = placed p c.args.self.now c.self.inside.seat c.self.inside.part a c.self.view_is
    c.self.invariant c.requires.program c.make_room.ensures.same (c.make_room.ensures.of p) in
    h.seated

pub returns-in-Err-clause-goes : goal.returns-in-Err-clause-goes
returns-in-Err-clause-goes c =
    let p = program_of c.args.p.now.program in
    let a = c.make_room.new.self in
    let h = placed p c.args.self.now c.self.inside.seat c.self.inside.part a c.self.view_is
    c.self.invariant c.requires.program c.make_room.ensures.same (c.make_room.ensures.of p) in
    stays h.back

pub give-requires-clause-of : goal.give-requires-clause-of
give-requires-clause-of c =
    let p = program_of c.args.p.now.program in
    let a = c.make_room.new.self in
    let h = placed p c.args.self.now c.self.inside.seat c.self.inside.part a c.self.view_is
    c.self.invariant c.requires.program c.make_room.ensures.same (c.make_room.ensures.of p) in
    h.of

pub give-requires-clause-exit : goal.give-requires-clause-exit
give-requires-clause-exit c =
    let p = program_of c.args.p.now.program in
    let a = c.make_room.new.self in
    let h = placed p c.args.self.now c.self.inside.seat c.self.inside.part a c.self.view_is
    c.self.invariant c.requires.program c.make_room.ensures.same (c.make_room.ensures.of p) in
    (c.args.r, subst (λ z. IsAtExit z.part c.args.r) (sym h.back) c.requires.exit)

pub returns-in_err-content-clause-goes : goal.returns-in_err-content-clause-goes
returns-in_err-content-clause-goes c =
    let p = program_of c.args.p.now.program in
    let a = c.make_room.new.self in
    let h = placed p c.args.self.now c.self.inside.seat c.self.inside.part a c.self.view_is
    c.self.invariant c.requires.program c.make_room.ensures.same (c.make_room.ensures.of p) in
    stays (c.in_err-content.ensures.err ∙ h.back)

pub leave-requires-clause-may : goal.leave-requires-clause-may
leave-requires-clause-may c =
    let p = program_of c.args.p.now.program in
    let a = c.make_room.new.self in
    let h = placed p c.args.self.now c.self.inside.seat c.self.inside.part a c.self.view_is
    c.self.invariant c.requires.program c.make_room.ensures.same (c.make_room.ensures.of p) in
    let b = c.give.new.self in
    let v = c.self.inside.seat.1 in
    let k = c.in_ok-content.content in
    let q = program_in c.args.regions.now.1 in
    let is = c.in_ok-content.ensures.content in
    let e = c.in_ok-content.ensures.ok in
    subst (λ z. MayLeave q v b z k) (sym c.resource-r.ensures)
    (may-leave c.still_clocks_have_no_event.ensures p v a b k e.0 h.here h.seated is e.1 q b
    c.requires.begun refl (slice_get_within p.resources k.resource.0 is.resource is.there))

pub returns-clause-goes : goal.returns-clause-goes
returns-clause-goes c =
    let p = program_of c.args.p.now.program in
    let a = c.make_room.new.self in
    let h = placed p c.args.self.now c.self.inside.seat c.self.inside.part a c.self.view_is
    c.self.invariant c.requires.program c.make_room.ensures.same (c.make_room.ensures.of p) in
    let e = c.in_ok-content.ensures.ok in
    leaves e.0 (content_of c.in_ok-content.content) (stays h.back) e.1

pub returns-clause-fresh : goal.returns-clause-fresh
returns-clause-fresh c =
    let p = program_of c.args.p.now.program in
    let e = c.in_ok-content.ensures.ok in
    fresh-left c.self.inside.seat.1 c.self.inside.part c.self.invariant p e.0
    c.in_ok-content.content c.leave.new.seat.1 c.give.new.self c.make_room.new.self
    c.make_room.ensures.same e.1 c.leave.ensures.view
