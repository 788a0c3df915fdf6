use Rattle.std.proofs.Common.{map, subst}
use Rattle.sf_core.specs.Program.Init.{IsInitAmong}
use Rattle.sf_core.proofs.Inits.{code-init, code-no_init}
use Rattle.sf_core.proofs.program.Program.is_init.Goals as goal

pub returns-in-Some : goal.returns-in-Some
returns-in-Some c =
    let p = c.args.self.now in
    code-init p.fields.items p.resources.items p.procedures.items c.in-Some.init c.args.f p.formed
    (subst (IsInitAmong (map (λ f. f.name) p.procedures.items)) c.in-Some.is p.set_up)

pub returns-in-None : goal.returns-in-None
returns-in-None c =
    let p = c.args.self.now in
    code-no_init p.procedures.items c.args.f
    (subst (IsInitAmong (map (λ f. f.name) p.procedures.items)) c.in-None.is p.set_up)
