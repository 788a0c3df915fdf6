use Rattle.std.proofs.Common.{arith}
use Rattle.sf_frame.proofs.calling.room_for.Goals as goal

pub room_count-requires-clause-few : goal.room_count-requires-clause-few
room_count-requires-clause-few c =
    let within = c.args.p.now.formed.procedures _ _ c.proc.ensures.meaning in
    omega (arith, within.declared_count, within.primed)

pub room_count-requires-clause-references : goal.room_count-requires-clause-references
room_count-requires-clause-references c =
    let within = c.args.p.now.formed.procedures _ _ c.proc.ensures.meaning in
    omega (arith, within.declared)

pub returns-clause-few : goal.returns-clause-few
returns-clause-few c =
    let within = c.args.p.now.formed.procedures _ _ c.proc.ensures.meaning in
    omega (arith, within.declared_count, within.primed, c.room_count.ensures)
