use Rattle.std.proofs.Common.{Err, ◌∙◌, ap}
use Rattle.sf_core.specs.Program.ProgramView.{program_of}
use Rattle.sf_part.specs.PartView.{part_of}
use Rattle.sf_region.proofs.Parted.{fork-child, fork-gone, fork-may, fork-none, fork-parent, here-in, of-in, returned}
use Rattle.sf_region.specs.Waits.{program_in}
use Rattle.sf_region.proofs.task.Task.fork.Goals as goal

pub split-requires-clause-of : goal.split-requires-clause-of
split-requires-clause-of c =
    let p = program_of c.args.p.now.program in
    c.make_room.ensures.of p (of-in p c.args.self c.self.inside.seat c.self.inside.part
    c.self.view_is c.requires.program c.self.invariant)

pub returns-in_err-left-clause-none : goal.returns-in_err-left-clause-none
returns-in_err-left-clause-none c e =
    let p = program_of c.args.p.now.program in
    fork-none p c.args.self c.self.inside.seat c.self.inside.part c.self.view_is c.requires.program
    c.self.invariant c.make_room.new.self c.make_room.ensures.same (c.split.ensures.none
    (c.in_err-left.was ∙ ap Err (returned c.from_residual.result _ _
    c.from_residual.ensures.1 e)))

pub split-one-requires-clause-may : goal.split-one-requires-clause-may
split-one-requires-clause-may c =
    let p = program_of c.args.p.now.program in
    let ok = c.in_ok-left.ensures.ok in
    fork-may p c.args.self c.self.inside.seat c.self.inside.part c.self.view_is c.requires.program
    c.self.invariant (program_in c.args.regions.now.1) c.make_room.new.self ok.0
    c.split.new.self c.in_ok-left.left c.in_ok-left.right c.requires.begun
    c.make_room.ensures.same ok.1

pub invariant_of-result : goal.invariant_of-result
invariant_of-result c =
    let p = program_of c.args.p.now.program in
    fork-parent p c.self.inside.seat.1 c.split-one.new.seat.1 c.split.new.self
    (here-in p c.args.self c.self.inside.seat c.self.inside.part c.self.view_is
    c.requires.program c.self.invariant)
    c.split-one.ensures.view c.split.ensures.of

pub invariant_of-result-2 : goal.invariant_of-result-2
invariant_of-result-2 c =
    let p = program_of c.args.p.now.program in
    fork-child p c.self.inside.seat.1 c.split-one.result.0.1 c.in_ok-left.left
    (here-in p c.args.self c.self.inside.seat c.self.inside.part c.self.view_is
    c.requires.program c.self.invariant)
    c.split-one.ensures.children.0 c.in_ok-left.ensures.left_of

pub invariant_of-result-3 : goal.invariant_of-result-3
invariant_of-result-3 c =
    let p = program_of c.args.p.now.program in
    fork-child p c.self.inside.seat.1 c.split-one.result.1.1 c.in_ok-left.right
    (here-in p c.args.self c.self.inside.seat c.self.inside.part c.self.view_is
    c.requires.program c.self.invariant)
    c.split-one.ensures.children.1 c.in_ok-left.ensures.right_of

pub returns-clause-gone : goal.returns-clause-gone
returns-clause-gone c =
    let p = program_of c.args.p.now.program in
    let ok = c.in_ok-left.ensures.ok in
    fork-gone p c.args.self c.self.inside.seat c.self.inside.part c.self.view_is
    c.requires.program c.self.invariant c.make_room.new.self ok.0 (part_of c.split.new.self)
    (part_of c.in_ok-left.left) (part_of c.in_ok-left.right) c.make_room.ensures.same
    c.task-path.ensures.keeps (c.make_room.ensures.of p (of-in p c.args.self c.self.inside.seat
    c.self.inside.part c.self.view_is c.requires.program c.self.invariant)) ok.1
