use Rattle.std.proofs.Common.{◌<◌, length, arith}
use Rattle.std.proofs.lemmas.List.{length-map}
use Rattle.sf_core.specs.Program.ProgramView.{program_of}
use Rattle.sf_core.specs.Program.View.{procedure_of}
use Rattle.sf_state.proofs.Started.{text-starts}
use Rattle.sf_show.proofs.starting.start_of.Goals as goal

-- what was read for a procedure of the program is a start of it
pub returns : goal.returns
returns c =
    let p = program_of c.args.arranged.now.program in
    let below : c.in_ok-f.f.0 < length p.procedures =
    omega (arith, c.in_ok-f.ensures.within, length-map c.args.arranged.now.program.procedures.items procedure_of) in
    text-starts p c.in_ok-f.f c.args.state.now c.in_ok-start.start below c.in_ok-start.ensures
