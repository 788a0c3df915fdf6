use Rattle.std.proofs.Common.{arith}
use Rattle.sf_part.proofs.children.own_count.Goals as goal

pub overflow_cast-result : goal.overflow_cast-result
overflow_cast-result c =
    let within = c.args.p.now.formed.procedures _ _ c.proc.ensures.meaning in
    omega (arith, within.declared_count, within.primed, c.len.ensures)
