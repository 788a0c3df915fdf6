use Rattle.std.proofs.Common.{Err, ◌∙◌, ap, subst}
use Rattle.sf_core.specs.Machine.Whole.{numbers}
use Rattle.sf_core.specs.Program.ProgramView.{program_of}
use Rattle.sf_part.specs.Forking.{HasNoShares}
use Rattle.sf_part.specs.Lent.{Lends}
use Rattle.sf_part.specs.PartView.{part_of}
use Rattle.sf_setup.proofs.Meeting.{drained-here, going-fork}
use Rattle.sf_setup.proofs.Staying.{no-shares, parted}
use Rattle.sf_setup.proofs.Units.{none-left}
use Rattle.sf_setup.proofs.forks.part_in_two.Goals as goal

pub returns-then-not-has_unit-clause-drained : goal.returns-then-not-has_unit-clause-drained
returns-then-not-has_unit-clause-drained c =
    drained-here (program_of c.args.p.now.program) (part_of c.args.part) c.task-path.result
    c.given.result (going-fork (program_of c.args.p.now.program) (part_of c.args.part).part
    c.requires.at)
    (none-left (numbers (part_of c.args.part).part.supply) c.has_unit.result c.has_unit.ensures
    c.if-not-has_unit.true)
    c.task-path.ensures.path c.given.ensures

pub split-requires-clause-of : goal.split-requires-clause-of
split-requires-clause-of c =
    c.make_room.ensures.of (program_of c.args.p.now.program) c.requires.alone.of

pub returns-in-Ok-clause-parted : goal.returns-in-Ok-clause-parted
returns-in-Ok-clause-parted c =
    let p = program_of c.args.p.now.program in
    let ok = c.in-Ok.ensures.ok in
    parted c.run_laws.ensures p c.requires.accepted c.args.part ok.0 c.split.new.self c.in-Ok.left
    c.in-Ok.right c.requires.alone c.task-path.ensures.keeps
    (subst (λ z. Lends p ok.0 z (part_of c.split.new.self) (part_of c.in-Ok.left)
    (part_of c.in-Ok.right)) c.make_room.ensures.same ok.1)
    (c.has_unit.ensures.0 c.if-not-has_unit.false) c.split.ensures.of c.in-Ok.ensures.left_of c.in-Ok.ensures.right_of

pub unreachable-requires : goal.unreachable-requires
unreachable-requires c =
    let p = program_of c.args.p.now.program in
    let none = c.split.ensures.none (c.in-Err-NoFootprint.is
    ∙ ap Err c.in-Err-NoFootprint.field-0-is) in
    no-shares c.run_laws.ensures p c.requires.accepted c.args.part c.requires.alone
    c.task-path.ensures.keeps c.requires.at (c.has_unit.ensures.0 c.if-not-has_unit.false)
    (subst (HasNoShares p) c.make_room.ensures.same none)
