use Rattle.std.proofs.Common.{◌∙◌, sym, ap, subst}
use Rattle.sf_sym.specs.Known.{IsLowest, first_nothing, is_nothing}
use Rattle.sf_sym.specs.State.{State}
use Rattle.sf_sym.specs.declared.state.Known.{Known}
use Rattle.sf_sym.proofs.Lowest.{nothing-lowest}
use Rattle.sf_sym.proofs.state.State.droppable.Goals as goal

pub returns-clause-lowest : goal.returns-clause-lowest
returns-clause-lowest c =
    subst (IsLowest (λ a. is_nothing a.atom) c.args.self.now.atoms)
    (sym (c.droppable.ensures ∙ ap (λ (x : Known). first_nothing x.store.atoms) c.deref.ensures
    ∙ ap (λ (s : State). first_nothing s.atoms) c.self.view_is))
    (nothing-lowest c.args.self.now.atoms c.is_numbered.ensures.rising)
