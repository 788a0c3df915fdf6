use Rattle.std.proofs.Common.{◌∙◌, arith}
use Rattle.std.proofs.lemmas.Slice.Zip.{AllZip-long}
use Rattle.sf_base.proofs.Zips.{zip-read}
use Rattle.sf_core.specs.Program.View.{conjunct_of}
use Rattle.sf_precise.specs.Checked.Waits.{known_outside}
use Rattle.sf_precise.proofs.Adding.{begin-more_read}
use Rattle.sf_precise.proofs.sequence.begin.Goals as goal

pub loop-i-init : goal.loop-i-init
loop-i-init c = c.new-work.ensures (known_outside c.args.start)

pub loop-i-preserved : goal.loop-i-preserved
loop-i-preserved c =
    begin-more_read conjunct_of (known_outside c.args.start) c.args.cs.now c.args.parts.now c.loop-i.i
    c.index-cs-i.result c.index-parts-i.result c.loop-i-test.true c.requires.parts c.index-cs-i.is
    c.index-parts-i.is
    c.is_some.result c.is_some.ensures c.in_ok-demand.demand.need c.in_ok-demand.demand.waits.items
    c.in_ok-demand.ensures.need c.in_ok-demand.ensures.waits c.loop-i.work c.add.new.self
    c.in_ok-add.ensures c.loop-i.invariant

pub bounds-outers-i : goal.bounds-outers-i
bounds-outers-i c = let e = AllZip-long _ c.args.cs.now c.args.outers.now c.requires.outer in omega arith

pub demand_of-requires : goal.demand_of-requires
demand_of-requires c =
    c.deref.ensures.value
    ∙ zip-read _ c.args.cs.now c.args.outers.now c.loop-i.i c.index-cs-i.result c.index-outers-i.result
    c.requires.outer c.loop-i-test.true c.index-cs-i.is c.index-outers-i.is
