use Rattle.sf_core.specs.Program.ProgramView.{program_of}
use Rattle.sf_state.proofs.FirstNamed.{entry-decides}
use Rattle.sf_state.proofs.entering.entry.Goals as goal

pub returns-clause-decides : goal.returns-clause-decides
returns-clause-decides c = entry-decides (program_of c.args.p.now.program) c.args.name.now c.find_entry.result
    c.find_entry.ensures.found c.find_entry.ensures.refused
