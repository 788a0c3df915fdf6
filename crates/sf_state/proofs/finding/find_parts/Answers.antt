use Rattle.std.proofs.Common.{slice_get, subst, sym}
use Rattle.std.specs.Option.{IfSome}
use Rattle.sf_core.specs.Program.ProgramView.{program_of}
use Rattle.sf_foot.specs.Variables.{value_of}
use Rattle.sf_state.specs.Checked.Found.{AllFound}
use Rattle.sf_state.proofs.finding.find_parts.Goals as goal

pub returns-then-fresh : goal.returns-then-fresh
returns-then-fresh c = subst (λ b. IfSome (slice_get (program_of c.args.p.now.program).procedures c.args.f.0)
    (λ g. AllFound (program_of c.args.p.now.program) g b (value_of c.args.vars.now) c.args.heap.now c.find_pre.result))
    (sym c.if-fresh.true) c.find_pre.ensures

pub returns-else-fresh : goal.returns-else-fresh
returns-else-fresh c = subst (λ b. IfSome (slice_get (program_of c.args.p.now.program).procedures c.args.f.0)
    (λ g. AllFound (program_of c.args.p.now.program) g b (value_of c.args.vars.now) c.args.heap.now c.find_all.result))
    (sym c.if-fresh.false) c.find_all.ensures
