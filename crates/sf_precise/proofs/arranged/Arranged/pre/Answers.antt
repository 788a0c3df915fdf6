use Rattle.std.proofs.Common.{arith}
use Rattle.sf_precise.proofs.Stored.{pre-there, pre-within, start-more}
use Rattle.sf_precise.proofs.arranged.Arranged.pre.Goals as goal

pub index-requires : goal.index-requires
index-requires c = let more = start-more c.args.self.now c.args.f.0 c.requires in omega (arith, more)

pub index-requires-2 : goal.index-requires-2
index-requires-2 c =
    let s = c.args.self.now in
    let inside = pre-within s c.args.f.0 c.requires (c.orders_from_truncation.ensures _ _ s.ordered)
    c.index.result.now c.index.ensures in
    omega (arith, s.orders.ok.0, inside)

pub returns : goal.returns
returns c =
    let s = c.args.self.now in
    pre-there s c.args.f.0 c.requires (c.orders_from_truncation.ensures _ _ s.ordered) c.index.result.now
    c.index.ensures c.index-2.result.now c.index-2.ensures
