use Rattle.std.proofs.Common.{◌∙◌, ◌≡◌, length, arith}
use Rattle.std.proofs.lemmas.Grind.{common_steps}
use Rattle.sf_core.specs.Program.ProgramView.{program_of}
use Rattle.sf_part.proofs.Taking.{taking-count, taking-few, taking-there}
use Rattle.sf_part.proofs.spots.variable_count.Goals as goal

pub overflow_cast-result : goal.overflow_cast-result
overflow_cast-result c =
    let few = taking-few (program_of c.args.p.now) c.args.p.now.formed c.args.r.0 c.requires.0
    c.requires.1 in
    let there = taking-there c.args.p.now.resources.items c.args.r.0 c.requires.0 c.requires.1 in
    let same = taking-count c.args.p.now.resources.items c.args.r.0 c.index.result.now c.requires.0
    there
    c.index.ensures c.requires.1 in
    let count : c.len.result ≡ length c.index.result.now.variables.items =
    grind (arith, common_steps) in
    omega (arith, few, same, count)

pub returns : goal.returns
returns c = λ resource h.
    let there = taking-there c.args.p.now.resources.items c.args.r.0 resource h in
    let same = taking-count c.args.p.now.resources.items c.args.r.0 c.index.result.now resource
    there
    c.index.ensures h in
    let count : c.len.result ≡ length c.index.result.now.variables.items =
    grind (arith, common_steps) in
    count ∙ same
