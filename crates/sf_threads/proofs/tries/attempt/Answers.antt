use Rattle.sf_core.specs.Program.ProgramView.{program_of}
use Rattle.sf_threads.proofs.Trying.{trying-entered}
use Rattle.sf_threads.proofs.tries.attempt.Goals as goal

pub returns-in-Ok-clause-inside : goal.returns-in-Ok-clause-inside
returns-in-Ok-clause-inside g c =
    let p = program_of c.args.crew.now.program.now.program in
    let e = c.in-Ok.ensures in
    λ inside. trying-entered c.run_laws.ensures p c.requires.accepted c.args.crew.now.regions.now
    c.args.r c.args.task c.in-Ok.tried.0 c.requires.trying (e.entered inside) e.goes e.seat.0
    e.seat.1 (e.fresh inside)
