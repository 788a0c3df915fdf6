use Rattle.std.proofs.Common.{subst, sym}
use Rattle.sf_core.specs.Program.ProgramView.{program_of}
use Rattle.sf_foot.specs.Starting.{StartsWith}
use Rattle.sf_precise.specs.declared.arranged.Arranged.{Arranged}
use Rattle.sf_running_tests.proofs.runs.run_text.Goals as goal

pub run-requires-clause-starts : goal.run-requires-clause-starts
run-requires-clause-starts g c = λ κs b.
    subst (λ (a : Arranged). StartsWith (program_of a.program) c.args.entered.f c.args.entered.start.fresh
    c.args.entered.start.vars c.args.entered.start.heap c.args.entered.start.parts.items) (sym c.requires.proved) c.requires.starts
