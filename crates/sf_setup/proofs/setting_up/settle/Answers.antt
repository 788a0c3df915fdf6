use Rattle.std.proofs.Common.{Err, ◌∙◌, ap, subst}
use Rattle.sf_core.specs.Machine.Whole.{numbers}
use Rattle.sf_core.specs.Program.ProgramView.{program_of}
use Rattle.sf_part.specs.Leaving.{HasNoContents}
use Rattle.sf_part.specs.PartView.{part_of}
use Rattle.sf_part.specs.Timed.{TimedPart}
use Rattle.sf_setup.proofs.Meeting.{drained-here, going-settling}
use Rattle.sf_setup.proofs.Staying.{no-lack}
use Rattle.sf_setup.proofs.Units.{none-left}
use Rattle.sf_setup.proofs.setting_up.settle.Goals as goal

pub returns-then-not-has_unit-clause-drained : goal.returns-then-not-has_unit-clause-drained
returns-then-not-has_unit-clause-drained c =
    drained-here (program_of c.args.p.now.program) (part_of c.args.part) c.task-path.result
    c.given.result
    (going-settling c.run_laws.ensures.nobody (program_of c.args.p.now.program)
    c.requires.accepted c.args.part c.requires.alone.of c.requires.setting_up c.requires.at)
    (none-left (numbers (part_of c.args.part).part.supply) c.has_unit.result c.has_unit.ensures
    c.if-not-has_unit.true)
    c.task-path.ensures.path c.given.ensures

pub settle-requires-clause-of : goal.settle-requires-clause-of
settle-requires-clause-of c =
    c.make_room.ensures.of (program_of c.args.p.now.program) c.requires.alone.of

pub unreachable-requires : goal.unreachable-requires
unreachable-requires c =
    let p = program_of c.args.p.now.program in
    let none = c.settle.ensures.none (c.in-Err-NoFootprint.is
    ∙ ap Err c.in-Err-NoFootprint.field-0-is) in
    no-lack c.run_laws.ensures p c.requires.accepted c.args.part c.requires.alone c.requires.at
    (subst (λ (z : TimedPart). HasNoContents p z.part) c.make_room.ensures.same none)
