use Rattle.sf_core.specs.Program.ProgramView.{program_of}
use Rattle.sf_precise.specs.Annotations.{annotations_in}
use Rattle.sf_cli.proofs.Refused.{refused-by, refused-variables, refused-order, determined-all}
use Rattle.sf_cli.specs.FileFault.{ProgramFault}
use Rattle.sf_cli.proofs.reading.fit.Goals as goal

pub returns-in_err-conditions-clause-refused : goal.returns-in_err-conditions-clause-refused
returns-in_err-conditions-clause-refused c =
    let p = program_of c.args.program in
    refused-by c.from_residual-in_err-conditions.result (ProgramFault p) _ c.from_residual-in_err-conditions.ensures.1
    (refused-variables p c.in_err-conditions.field-0.0 c.in_err-conditions.ensures.broken)

pub returns-in_err-arrange-clause-refused : goal.returns-in_err-arrange-clause-refused
returns-in_err-arrange-clause-refused c =
    let p = program_of c.args.program in
    refused-by c.from_residual-in_err-arrange.result (ProgramFault p) _ c.from_residual-in_err-arrange.ensures.1
    (refused-order p c.in_err-arrange.field-0.0 c.in_ok-conditions.ensures.kept c.in_err-arrange.ensures.undetermined)

pub returns-clause-determined : goal.returns-clause-determined
returns-clause-determined c = determined-all c.ordered_is_determined.ensures (annotations_in (program_of c.args.program)) _ c.in_ok-arrange.ensures.orders
