use Rattle.std.proofs.Common.{◌≡◌, arith, length}
use Rattle.std.proofs.lemmas.Grind.{common_steps}
use Rattle.sf_core.specs.Program.View.{procedure_of}
use Rattle.sf_frame.proofs.first.own_count.Goals as goal

pub overflow_cast-result : goal.overflow_cast-result
overflow_cast-result c =
    let within = c.args.p.now.formed.procedures _ _ c.proc.ensures.meaning in
    let n : c.len.result ≡ length c.proc.result.now.names.items = grind (arith, common_steps) in
    omega (arith, within.declared_count, within.primed, n)

pub returns-clause-few : goal.returns-clause-few
returns-clause-few c =
    let within = c.args.p.now.formed.procedures _ _ c.proc.ensures.meaning in
    let n : c.len.result ≡ length c.proc.result.now.names.items = grind (arith, common_steps) in
    omega (arith, within.declared_count, within.primed, n)

pub returns-clause-there : goal.returns-clause-there
returns-clause-there c = (procedure_of c.proc.result.now, c.proc.ensures.meaning)
