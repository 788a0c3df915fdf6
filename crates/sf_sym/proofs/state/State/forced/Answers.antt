use Rattle.std.proofs.Common.{is_some, sym, subst}
use Rattle.std.specs.Option.{option_map}
use Rattle.sf_sym.specs.Known.{IsLowest, forced_pair}
use Rattle.sf_sym.proofs.Lowest.{forced-lowest}
use Rattle.sf_sym.proofs.state.State.forced.Goals as goal

pub returns-clause-lowest : goal.returns-clause-lowest
returns-clause-lowest c =
    let s = c.args.self.now in
    subst (λ r. IsLowest (λ a. is_some (forced_pair s a.number a.atom)) s.atoms (option_map (λ f. f.0) r))
    (sym c.first_forced.ensures) (forced-lowest s s.atoms c.is_numbered.ensures.rising)
