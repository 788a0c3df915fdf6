use Rattle.std.proofs.Common.{◌∙◌, ap}
use Rattle.sf_sym.specs.Checked.Wanted.{known}
use Rattle.sf_sym.specs.Known.{first_forced}
use Rattle.sf_sym.specs.declared.state.Known.{Known}
use Rattle.sf_sym.proofs.LowestRows.{forced_known}
use Rattle.sf_sym.proofs.state.State.first_forced.Goals as goal

pub returns : goal.returns
returns c =
    let k = c.self.inside.known.value in
    c.forced.ensures ∙ ap (λ (x : Known). first_forced (known x.store) x.store.atoms) c.deref.ensures
    ∙ forced_known k.store k.links k.vars k.next_sym k.store.atoms
    ∙ ap (λ z. first_forced z z.atoms) c.self.view_is
