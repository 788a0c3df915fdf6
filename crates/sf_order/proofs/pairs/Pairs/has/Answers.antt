use Rattle.std.proofs.Common.{◌≡◌, ◌∙◌, ap, rules}
use Rattle.sf_order.specs.Checked.Tests.{has_pair}
use Rattle.sf_order.proofs.Found.{has_pair-is}
use Rattle.sf_order.proofs.pairs.Pairs.has.Goals as goal

pub returns : goal.returns
returns c =
    let same : c.has_pair.result ≡ has_pair c.args.r c.args.s c.args.self.now =
    c.has_pair.ensures ∙ ap (has_pair c.args.r c.args.s) (search rules) in
    rw same (has_pair-is c.args.r c.args.s c.args.self.now)
