use Rattle.std.proofs.Common.{subst}
use Rattle.sf_base.proofs.MapSplits.{map-same}
use Rattle.sf_base.specs.HeapStore.{Splits, Store as S}
use Rattle.sf_frame.specs.Stores.{store_of}
use Rattle.sf_part.proofs.back.copy_both.Goals as goal

pub returns-in-Ok : goal.returns-in-Ok
returns-in-Ok c =
    let one = map-same (store_of c.in_ok-both.both) (store_of c.args.left.now)
    c.in_ok-both.ensures in
    let two = map-same (store_of c.in_ok-more.more) (store_of c.args.right.now)
    c.in_ok-more.ensures in
    subst (λ (z : S). Splits (store_of c.join.new.self) z (store_of c.args.right.now)) one
    (subst (λ (z : S). Splits (store_of c.join.new.self) (store_of c.in_ok-both.both) z) two
    c.in-Ok.ensures.ok)
