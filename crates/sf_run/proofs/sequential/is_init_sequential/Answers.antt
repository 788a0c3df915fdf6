use Rattle.std.proofs.Common.{subst}
use Rattle.sf_core.specs.Program.Init.{IsInitAmong}
use Rattle.sf_core.specs.Program.ProgramView.{program_of}
use Rattle.sf_core.specs.Program.Syntax.{Procedure}
use Rattle.std.specs.Prelude.{map}
use Rattle.sf_run.proofs.SettingUp.{init-none, init-some, named-code}
use Rattle.sf_run.proofs.sequential.is_init_sequential.Goals as goal

pub returns-in-Some : goal.returns-in-Some
returns-in-Some c =
    init-some (program_of c.args.p.now) c.args.p.now.formed c.in-Some.n c.is_sequential.result
    (subst (IsInitAmong (map (λ (g : Procedure). g.name) (program_of c.args.p.now).procedures)) c.in-Some.is
    (named-code c.args.p.now.procedures.items c.args.p.now.init c.args.p.now.set_up)) c.is_sequential.ensures

pub returns-in-None : goal.returns-in-None
returns-in-None c =
    init-none (program_of c.args.p.now)
    (subst (IsInitAmong (map (λ (g : Procedure). g.name) (program_of c.args.p.now).procedures)) c.in-None.is
    (named-code c.args.p.now.procedures.items c.args.p.now.init c.args.p.now.set_up))
