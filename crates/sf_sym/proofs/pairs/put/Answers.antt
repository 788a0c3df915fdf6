use Rattle.std.proofs.Common.{◌++◌, ◌∷◌, [], sym, subst}
use Rattle.sf_sym.specs.Checked.Sets.{AreSame}
use Rattle.sf_sym.proofs.PairSets.{same-more}
use Rattle.sf_sym.proofs.pairs.put.Goals as goal

pub returns-clause-ok : goal.returns-clause-ok
returns-clause-ok c =
    let list = c.args.list.now in
    let pair = c.args.pair in
    subst (AreSame (list ++ pair ∷ [])) (sym c.in_ok-insert.ensures.keys)
    (same-more pair.0 pair.1 list c.args.set.now.keys c.requires)
