use Rattle.sf_core.specs.Program.ProgramView.{program_of}
use Rattle.sf_cli.proofs.Refused.{refused-by, refused-mapped}
use Rattle.sf_cli.specs.FileFault.{FileFault, ProgramFault, unread, unfit}
use Rattle.sf_cli.proofs.reading.admit.Goals as goal

pub returns-in_err-program-clause-refused : goal.returns-in_err-program-clause-refused
returns-in_err-program-clause-refused c =
    refused-by c.from_residual.result (FileFault c.args.bytes.now) _ c.from_residual.ensures.1 (λ n. unread (c.in_err-program.ensures.refused n))

pub returns-clause-refused : goal.returns-clause-refused
returns-clause-refused c =
    let p = program_of c.in_ok-program.program in
    refused-mapped c.fit.result (ProgramFault p) (FileFault c.args.bytes.now) (λ e h. unfit p c.in_ok-program.ensures.read h) c.fit.ensures.refused
