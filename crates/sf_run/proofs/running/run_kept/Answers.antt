use Rattle.std.proofs.Common.{IfOk, map, subst, sym}
use Rattle.sf_part.specs.Parts.{entry_of}
use Rattle.sf_core.specs.Program.Syntax.{Program}
use Rattle.sf_run.specs.Running.{EndsWith, IsLog}
use Rattle.sf_run.specs.Sequential.{IsSequentialStart}
use Rattle.sf_run.proofs.running.run_kept.Goals as goal

pub returns-clause-ends_alone : goal.returns-clause-ends_alone
returns-clause-ends_alone g c = λ n.
    subst (λ (z : Program). IfOk c.run_accepted.result (λ t. EndsWith z c.args.f c.args.start.fresh
    c.args.start.vars c.args.start.heap c.args.start.unit c.args.budget.steps t.0))
    c.proved_program-p.ensures.program
    (c.run_accepted.ensures.ends_alone
    (subst (λ (z : Program). IsSequentialStart z c.args.f c.args.start.fresh)
    (sym c.proved_program-p.ensures.program) n))

pub returns-clause-log : goal.returns-clause-log
returns-clause-log g c = λ kept.
    subst (λ (z : Program). IfOk c.run_accepted.result (λ t. IsLog z c.args.f c.args.start.fresh
    c.args.start.vars c.args.start.heap c.args.start.unit c.args.budget.steps t.0
    (map entry_of t.2.entries.items))) c.proved_program-p.ensures.program
    (c.run_accepted.ensures.log kept)
