use Rattle.std.proofs.Common.{arith}
use Rattle.sf_sym.proofs.AboveSymbols.{above-bindings}
use Rattle.sf_sym.proofs.above.above_bindings.Goals as goal

pub loop-first-preserved : goal.loop-first-preserved
loop-first-preserved c = record {
  least = omega (arith, c.loop-first.invariant.least, c.above_binding-above.ensures.least);
  below = λ m t e. above-bindings c.loop-first.above c.above_binding-above.result c.in-Some.first.now
      c.loop-first.left.now c.in-Some.rest.now t c.above_binding-above.ensures.least
      c.in-Some.ensures.cases.0 c.above_binding-above.ensures.below (c.loop-first.invariant.below m t e);
}
