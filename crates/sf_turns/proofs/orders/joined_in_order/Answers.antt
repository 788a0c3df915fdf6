use Rattle.sf_turns.proofs.orders.joined_in_order.Goals as goal

pub joined-requires : goal.joined-requires
joined-requires c = (c.requires.0, c.loop-number.invariant c.requires.0 c.requires.1)
