use Rattle.std.proofs.Common.{Err, ap, ◌≡◌}
use Rattle.sf_frame.specs.Stores.{store_of}
use Rattle.sf_part.specs.declared.fault.PartFault.TheVariants.{NoFootprint}
use Rattle.sf_part.proofs.Opened.{opened-cells, opened-slots}
use Rattle.sf_part.proofs.splitting.lend_opened.Goals as goal

pub returns-in-Err-clause-none : goal.returns-in-Err-clause-none
returns-in-Err-clause-none c = λ e.
    let fault : c.in-Err.fault ≡ NoFootprint = cc in
    c.in-Err.ensures.none (ap Err fault)

pub take_out-one-requires-clause-slots : goal.take_out-one-requires-clause-slots
take_out-one-requires-clause-slots c =
    let lent = c.in-Ok.ensures.ok c.requires.left_first.0 c.requires.right_first.0
    c.requires.left_first.1.there c.requires.right_first.1.there in
    lent.one_just.values

pub take_out-two-requires-clause-cells : goal.take_out-two-requires-clause-cells
take_out-two-requires-clause-cells c =
    let lent = c.in-Ok.ensures.ok c.requires.left_first.0 c.requires.right_first.0
    c.requires.left_first.1.there c.requires.right_first.1.there in
    opened-cells c.args.shared.now.heap c.take_out-one.result.heap
    c.take_out-one.new.shared.heap c.in-Ok.shares.left.at c.in-Ok.shares.right.at
    c.take_out-one.ensures.cells c.take_out-one.ensures.at lent.cells lent.two_cells

pub take_out-two-requires-clause-slots : goal.take_out-two-requires-clause-slots
take_out-two-requires-clause-slots c =
    let lent = c.in-Ok.ensures.ok c.requires.left_first.0 c.requires.right_first.0
    c.requires.left_first.1.there c.requires.right_first.1.there in
    opened-slots (store_of c.args.shared.now.store) (store_of c.take_out-one.result.store)
    (store_of c.take_out-one.new.shared.store) (store_of c.in-Ok.shares.right.store)
    (store_of c.in-Ok.shares.left.store) c.take_out-one.ensures.store
    c.take_out-one.ensures.is_share lent.slots lent.two_just.values
