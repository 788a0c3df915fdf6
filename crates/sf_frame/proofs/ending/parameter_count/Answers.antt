use Rattle.std.proofs.Common.{arith}
use Rattle.sf_frame.proofs.ending.parameter_count.Goals as goal

pub overflow_add-result : goal.overflow_add-result
overflow_add-result c =
    let within = c.args.p.now.formed.procedures _ _ c.proc-procedure.ensures.meaning in
    omega (arith, within.declared_count)
