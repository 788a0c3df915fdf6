use Rattle.std.proofs.Common.{◌++◌}
use Rattle.sf_core.specs.Machine.Whole.{numbers}
use Rattle.sf_core.specs.Program.ProgramView.{program_of}
use Rattle.sf_part.specs.PartView.{part_of}
use Rattle.sf_setup.proofs.Meeting.{drained-join, meet-goes_on, meet-may, meet-moved}
use Rattle.sf_setup.proofs.Units.{none-both, none-left}
use Rattle.sf_setup.proofs.forks.meet.Goals as goal

pub returns-then-not-has_either-clause-drained : goal.returns-then-not-has_either-clause-drained
returns-then-not-has_either-clause-drained c = λ a m.
    let none = none-both (numbers (part_of c.args.met.left).part.supply)
    (numbers (part_of c.args.met.right).part.supply)
    (none-left (numbers (part_of c.args.met.left).part.supply
    ++ numbers (part_of c.args.met.right).part.supply) c.has_either.result c.has_either.ensures
    c.if-not-has_either.true) in
    drained-join c.run_laws.ensures (program_of c.args.p.now.program) c.requires.accepted a
    c.args.met.waits c.args.met.left c.args.met.right m c.task-path.result c.given.result
    c.task-path.ensures.path c.given.ensures none.0 none.1

pub join-requires : goal.join-requires
join-requires c =
    meet-may c.run_laws.ensures (program_of c.args.p.now.program) c.requires.accepted
    c.requires.met.0 c.args.met.waits c.args.met.left c.args.met.right c.requires.met.1
    (c.has_either.ensures.0 c.if-not-has_either.false)

pub returns-in-Ok-clause-moved : goal.returns-in-Ok-clause-moved
returns-in-Ok-clause-moved c = λ a m.
    let p = program_of c.args.p.now.program in
    let ok = c.in-Ok.ensures.ok in
    meet-moved c.run_laws.ensures p c.requires.accepted a c.args.met.waits c.args.met.left
    c.args.met.right m c.join.new.self ok.0 (ok.1 p)
    (c.join.ensures.of p m.parted.waits_of m.left_ended.alone.of m.right_ended.alone.of
    (meet-goes_on c.run_laws.ensures p c.requires.accepted a c.args.met.waits c.args.met.left
    c.args.met.right m))
