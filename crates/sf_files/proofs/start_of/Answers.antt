use Rattle.std.proofs.Common.{◌<◌, length, arith}
use Rattle.std.proofs.lemmas.List.{length-map}
use Rattle.sf_core.specs.Program.ProgramView.{program_of}
use Rattle.sf_core.specs.Program.View.{procedure_of}
use Rattle.sf_state.proofs.Started.{text-starts}
use Rattle.sf_files.proofs.start_of.Goals as goal

pub returns-in-Ok-read-clause-starts : goal.returns-in-Ok-read-clause-starts
returns-in-Ok-read-clause-starts c =
    let p = program_of c.args.p.now.program in
    let below : c.in-Ok.f.0 < length p.procedures =
    omega (arith, c.in-Ok.ensures.within, length-map c.args.p.now.program.procedures.items procedure_of) in
    text-starts p c.in-Ok.f c.args.text.now c.in-Ok-read.start below c.in-Ok-read.ensures
