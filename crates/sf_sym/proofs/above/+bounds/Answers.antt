use Rattle.std.proofs.Common.{◌≡◌, sym, subst, arith}
use Rattle.std.proofs.lemmas.List.{take_more}
use Rattle.sf_core.specs.Assertions.Occurs.{OccursInFields}
use Rattle.sf_sym.specs.Checked.Above.{ConjunctsBelow, OccurBelow}
use Rattle.sf_sym.proofs.AboveSymbols.{above-level, above-more, above-points, above-pushed}
use Rattle.sf_sym.proofs.above.+bounds.Goals as goal

pub above_level-returns-clause-below : goal.above_level-returns-clause-below
above_level-returns-clause-below t c =
    above-level c.above_conjuncts.result c.args.level.now _ c.deref.ensures.value c.above_conjuncts.ensures.below

pub above_conjuncts-loop-c-preserved : goal.above_conjuncts-loop-c-preserved
above_conjuncts-loop-c-preserved t c = record {
  least = omega (arith, c.loop-c.invariant.least, c.above_conjunct-above.ensures.least);
  below = subst (ConjunctsBelow c.above_conjunct-above.result)
      (sym (take_more c.args.cs.now c.loop-c.c-index c.c-item.result c.loop-c-test.true))
      (above-pushed c.loop-c.above c.above_conjunct-above.result _ c.c-item.result _ c.c-item.is
      c.above_conjunct-above.ensures.least c.loop-c.invariant.below c.above_conjunct-above.ensures.below);
}

pub above_conjunct-returns-in-Points-clause-below :
    goal.above_conjunct-returns-in-Points-clause-below
above_conjunct-returns-in-Points-clause-below t c =
    above-points c.above_fields.result c.args.c.now _ c.in-Points.root c.in-Points.fields c.in-Points.is
    (above-more c.above_operand.result c.above_fields.result (λ z. z ≡ c.in-Points.root)
    c.above_fields.ensures.least c.above_operand.ensures.below)
    (subst (λ fs. OccurBelow c.above_fields.result (OccursInFields fs)) c.deref.ensures.value
    c.above_fields.ensures.below)
