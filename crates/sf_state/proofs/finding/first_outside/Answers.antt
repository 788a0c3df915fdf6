use Rattle.std.proofs.Common.{◌≡◌, ◌∙◌, true, sym}
use Rattle.std.specs.BTreeSet.{contains}
use Rattle.std.specs.Ordering.{nat_cmp}
use Rattle.std.proofs.lemmas.List.Elements.{All-more}
use Rattle.sf_state.proofs.Marks.{marks-least}
use Rattle.sf_state.proofs.finding.first_outside.Goals as goal

pub returns-then-not-contains-clause-some : goal.returns-then-not-contains-clause-some
returns-then-not-contains-clause-some c =
    marks-least c.args.taken.now c.args.at.now c.as_slice-l-items.result.now c.loop-l.l-index
    c.as_slice-l-items.ensures.value c.as_slice-l-items.ensures.rising c.loop-l-test.true c.loop-l.invariant
    (sym c.contains.ensures ∙ c.if-not-contains.true)

-- one more is in the set
pub loop-l-preserved : goal.loop-l-preserved
loop-l-preserved c =
    All-more (λ q. contains nat_cmp c.args.taken.now q ≡ true) c.as_slice-l-items.result.now c.loop-l.l-index 0
    c.loop-l-test.true c.loop-l.invariant (sym c.contains.ensures ∙ c.if-not-contains.false)
