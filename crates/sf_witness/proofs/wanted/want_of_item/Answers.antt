use Rattle.std.proofs.Common.{sym}
use Rattle.sf_witness.proofs.Wishes.{wants-nothing}
use Rattle.sf_witness.proofs.wanted.want_of_item.Goals as goal

pub returns-in_default : goal.returns-in_default
returns-in_default c rest =
    sym (wants-nothing c.args.item.now c.requires (λ p w n e. c.in_default.not-Take p w n e) rest)
