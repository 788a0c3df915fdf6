use Rattle.std.proofs.Common.{arith}
use Rattle.sf_core.specs.Program.ProgramView.{program_of}
use Rattle.sf_proof.proofs.Once.{decides-read}
use Rattle.sf_proof.proofs.reading.read.Goals as goal

pub returns : goal.returns
returns c = decides-read (program_of c.args.p.now) c.args.text.now c.read_lines.result (omega arith)
    c.read_lines.ensures
