use Rattle.std.proofs.Common.{◌≡◌, length, arith}
use Rattle.std.proofs.lemmas.Grind.{common_steps}
use Rattle.sf_frame.proofs.Firsts.{few_at}
use Rattle.sf_frame.proofs.resources.variable_count.Goals as goal

pub overflow_cast-result : goal.overflow_cast-result
overflow_cast-result c =
    let few = few_at c.args.p.now.resources.items c.args.r c.resource_at.result.now c.requires
    c.args.p.now.formed.variables c.resource_at.ensures in
    let count : c.len.result ≡ length c.resource_at.result.now.variables.items = grind (arith, common_steps) in
    omega (arith, few, count)
