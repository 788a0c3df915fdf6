use Rattle.std.proofs.Common.{◌<◌, length, arith}
use Rattle.std.proofs.lemmas.Bool.Decides.{nat_tests}
use Rattle.std.proofs.lemmas.List.{length-map}
use Rattle.sf_core.specs.Program.ProgramView.{program_of}
use Rattle.sf_core.specs.Program.View.{assertion_of, procedure_of}
use Rattle.sf_rules.proofs.CallRows.{contract_is}
use Rattle.sf_rules.proofs.calls.contract_of.Goals as goal

pub returns-clause-some : goal.returns-clause-some
returns-clause-some g c =
    let more = c.if-f-len.false in
    let count = c.len.ensures in
    let same = length-map c.args.arranged.now.program.procedures.items procedure_of in
    let below : c.args.f.0 < length (program_of c.args.arranged.now.program).procedures = grind (arith, nat_tests) in
    contract_is g.d c.args.arranged.now c.args.f (assertion_of c.pre.result.now.assertion)
    (assertion_of c.post.result.now.assertion) c.requires.0 c.requires.1 below c.pre.ensures
    c.post.ensures
