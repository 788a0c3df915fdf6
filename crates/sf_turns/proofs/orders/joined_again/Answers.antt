use Rattle.sf_turns.proofs.orders.joined_again.Goals as goal

pub joined_in_order-requires : goal.joined_in_order-requires
joined_in_order-requires c = (c.args.task.task, rw c.in-Some.is at c.in_ok-tree.ensures)
