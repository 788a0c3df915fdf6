use Rattle.std.proofs.Common.{map, sym, ◌∙◌}
use Rattle.sf_core.specs.Program.ProgramView.{program_of}
use Rattle.sf_core.specs.Program.View.{assertion_of}
use Rattle.sf_precise.proofs.Stored.{owed-invariants}
use Rattle.sf_precise.proofs.arranged.Arranged.owed.Goals as goal

pub returns-then-is_init : goal.returns-then-is_init
returns-then-is_init c =
    owed-invariants (program_of c.args.self.now.program) c.args.f
    (map (λ o. assertion_of o.assertion) c.invariants.result.now) (sym c.is_init.ensures ∙ c.if-is_init.true)
    c.invariants.ensures
