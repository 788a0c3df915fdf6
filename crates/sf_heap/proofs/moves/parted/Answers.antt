use Rattle.std.proofs.Common.{◌<◌, length, arith}
use Rattle.sf_heap.specs.Checked.Trees.{entries_of}
use Rattle.sf_heap.proofs.Merges.{Parting-absent, Parting-more, Parting-there}
use Rattle.sf_heap.proofs.moves.parted.Goals as goal

-- the next location isn't in the part yet, and so in the rest
pub moved-more-requires-clause-absent : goal.moved-more-requires-clause-absent
moved-more-requires-clause-absent c =
    Parting-absent (entries_of c.args.cells) c.args.at.now c.loop-l.l-index _ _ c.requires.at_rises (omega (arith, c.loop-l-test.true)) c.loop-l.invariant

pub moved-more-requires-clause-there : goal.moved-more-requires-clause-there
moved-more-requires-clause-there c =
    let within : c.loop-l.l-index < length c.args.at.now = omega (arith, c.loop-l-test.true) in
    Parting-there (entries_of c.args.cells) c.args.at.now c.loop-l.l-index _ _ c.requires.at_rises within c.loop-l.invariant
    (c.requires.there c.loop-l.l-index 0 within)

-- it is moved
pub loop-l-preserved : goal.loop-l-preserved
loop-l-preserved c =
    Parting-more (entries_of c.args.cells) c.args.at.now c.loop-l.l-index _ _ c.requires.at_rises (omega (arith, c.loop-l-test.true)) c.loop-l.invariant
    _ _ c.moved-more.ensures
