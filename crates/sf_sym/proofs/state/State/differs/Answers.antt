use Rattle.std.proofs.Common.{◌∙◌, ap}
use Rattle.sf_sym.specs.Checked.Wanted.{known}
use Rattle.sf_sym.specs.Tests.{differs}
use Rattle.sf_sym.specs.declared.state.Known.{Known}
use Rattle.sf_sym.proofs.state.State.differs.Goals as goal

pub returns : goal.returns
returns c =
    c.differs.ensures ∙ ap (λ (x : Known). differs (known x.store) c.args.t c.args.u) c.deref.ensures
    ∙ ap (λ s. differs s c.args.t c.args.u) c.self.view_is
