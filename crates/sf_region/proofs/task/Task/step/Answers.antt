use Rattle.sf_core.specs.Program.ProgramView.{program_of}
use Rattle.sf_part.specs.Going.{GoesTo, stays}
use Rattle.sf_part.specs.PartView.{part_of}
use Rattle.sf_region.specs.Waits.{program_in}
use Rattle.std.proofs.Common.{ap, ◌∙◌, subst}
use Rattle.sf_core.specs.Program.Syntax.{Program}
use Rattle.sf_region.specs.declared.views.View.{View}
use Rattle.sf_region.proofs.Seating.{may-move, seated-of, seated-same, seated-after, goes-after}
use Rattle.sf_region.proofs.Fresh.{fresh-step}
use Rattle.sf_region.proofs.task.Task.step.Goals as goal

pub invariant_of-self : goal.invariant_of-self
invariant_of-self c =
    let p : Program = program_of c.args.p.now.program in
    let v : View = c.self.inside.seat.1 in
    let here = ap (λ z. program_in z.0.1.begun) c.self.view_is ∙ c.requires.program in
    let a = c.self.inside.part in
    seated-same p v a here c.self.invariant c.make_room.new.self c.make_room.ensures.same
    (c.make_room.ensures.of p (seated-of p v a here c.self.invariant))

pub returns-in_err-make_room-clause-goes : goal.returns-in_err-make_room-clause-goes
returns-in_err-make_room-clause-goes c =
    stays (c.make_room.ensures.same ∙ ap (λ z. part_of z.1) c.self.view_is)

pub step_local-requires-clause-of : goal.step_local-requires-clause-of
step_local-requires-clause-of c =
    let p : Program = program_of c.args.p.now.program in
    let v : View = c.self.inside.seat.1 in
    let here = ap (λ z. program_in z.0.1.begun) c.self.view_is ∙ c.requires.program in
    c.make_room.ensures.of p (seated-of p v c.self.inside.part here c.self.invariant)

pub invariant_of-self-2 : goal.invariant_of-self-2
invariant_of-self-2 c =
    let p : Program = program_of c.args.p.now.program in
    let v : View = c.self.inside.seat.1 in
    let here = ap (λ z. program_in z.0.1.begun) c.self.view_is ∙ c.requires.program in
    let a = c.self.inside.part in
    let e = c.step_local.ensures in
    seated-after p v a here c.self.invariant c.step_local.new.self
    (may-move p v a here c.self.invariant c.step_local.new.self c.make_room.new.self
    c.step_local.result c.make_room.ensures.same e.moved e.unchanged e.err) e.of

pub returns-clause-goes : goal.returns-clause-goes
returns-clause-goes c =
    let p : Program = program_of c.args.p.now.program in
    let v : View = c.self.inside.seat.1 in
    let here = ap (λ z. program_in z.0.1.begun) c.self.view_is ∙ c.requires.program in
    let a = c.self.inside.part in
    let e = c.step_local.ensures in
    subst (λ z. GoesTo p (part_of z.1) (part_of c.step_local.new.self)) c.self.view_is
    (goes-after p v a here c.self.invariant c.step_local.new.self
    (may-move p v a here c.self.invariant c.step_local.new.self c.make_room.new.self
    c.step_local.result c.make_room.ensures.same e.moved e.unchanged e.err))

pub returns-clause-fresh : goal.returns-clause-fresh
returns-clause-fresh c =
    let p : Program = program_of c.args.p.now.program in
    fresh-step c.self.inside.seat.1 c.self.inside.part c.self.invariant p c.step_local.new.self
    c.make_room.new.self c.step_local.result c.make_room.ensures.same c.step_local.ensures.moved
