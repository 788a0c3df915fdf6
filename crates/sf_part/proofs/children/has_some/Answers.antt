use Rattle.std.proofs.Common.{◌∙◌, sym}
use Rattle.sf_frame.specs.Stores.{store_of}
use Rattle.sf_part.proofs.Named.{among-none, among-some}
use Rattle.sf_part.proofs.children.has_some.Goals as goal

pub returns-then-is_some-clause-some : goal.returns-then-is_some-clause-some
returns-then-is_some-clause-some c = λ _.
    among-some (store_of c.args.store.now) c.args.spots.now c.loop-spot.spot-index _
    c.loop-spot-test.true c.find.result c.find.ensures
    (sym c.is_some.ensures ∙ c.if-is_some.true)

pub loop-spot-preserved : goal.loop-spot-preserved
loop-spot-preserved c =
    among-none (store_of c.args.store.now) c.args.spots.now c.loop-spot.spot-index _
    c.loop-spot-test.true c.find.result c.find.ensures
    (sym c.is_some.ensures ∙ c.if-is_some.false) c.loop-spot.invariant
