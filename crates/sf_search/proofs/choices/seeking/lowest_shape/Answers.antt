use Rattle.std.proofs.Common.{◌≡◌, None, sym, subst}
use Rattle.std.specs.Option.{option_map}
use Rattle.sf_consume.specs.Subtract.{is_same_shape}
use Rattle.sf_search.proofs.Seeking.{lowest_same_cell_is}
use Rattle.sf_search.specs.Strategy.{lowest, which}
use Rattle.sf_search.proofs.choices.seeking.lowest_shape.Goals as goal

pub returns-in-Points : goal.returns-in-Points
returns-in-Points c =
    let xs = c.args.state.now.atoms in
    sym (subst (λ w. option_map (λ f. f.0) (lowest (which (λ x. is_same_shape x w)) xs) ≡ None) (sym c.in-Points.is)
    (lowest_same_cell_is _ _ xs))
