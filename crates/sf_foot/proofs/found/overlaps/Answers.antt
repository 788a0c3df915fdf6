use Rattle.std.proofs.Common.{◌≡◌, ◌∙◌, false, sym}
use Rattle.std.specs.BTreeSet.{contains}
use Rattle.std.specs.Ordering.{nat_cmp}
use Rattle.std.proofs.lemmas.List.Elements.{All-more}
use Rattle.sf_foot.proofs.found.overlaps.Goals as goal

-- one more isn't in the set
pub loop-l-preserved : goal.loop-l-preserved
loop-l-preserved c =
    All-more (λ q. contains nat_cmp c.args.taken.now q ≡ false) c.args.at.now c.loop-l.l-index 0
    c.loop-l-test.true
    c.loop-l.invariant (sym c.contains.ensures ∙ c.if-contains.false)
