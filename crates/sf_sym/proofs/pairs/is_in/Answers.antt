use Rattle.std.proofs.Common.{◌∙◌, ◌||◌, IfSome, sym, ap, subst}
use Rattle.std.specs.List.{list_any}
use Rattle.sf_sym.specs.Tests.{is_pair}
use Rattle.sf_sym.specs.Checked.Sets.{AreSame}
use Rattle.sf_sym.proofs.PairSets.{is_key, listed}
use Rattle.sf_sym.proofs.pairs.is_in.Goals as goal

pub returns-then-contains : goal.returns-then-contains
returns-then-contains c =
    let list = c.args.list.now in
    let keys = c.args.set.now.keys in
    c.if-contains.true
    ∙ sym (ap (λ b. b || list_any (is_key c.args.u c.args.t) keys)
    (sym c.contains.ensures ∙ c.if-contains.true))
    ∙ listed c.args.t c.args.u list keys c.requires

pub returns-else-contains : goal.returns-else-contains
returns-else-contains c =
    let list = c.args.list.now in
    let keys = c.args.set.now.keys in
    c.contains-else-contains.ensures
    ∙ sym (ap (λ b. b || list_any (is_key c.args.u c.args.t) keys)
    (sym c.contains.ensures ∙ c.if-contains.false))
    ∙ listed c.args.t c.args.u list keys c.requires
