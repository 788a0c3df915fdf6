use Rattle.sf_sym.proofs.AboveSymbols.{above-bindings_more, above-one_more, above-popped}
use Rattle.sf_sym.proofs.pending.Pending.replace_first.Goals as goal

pub invariant_of-self : goal.invariant_of-self
invariant_of-self c =
    let inside = c.self.inside in
    let n = c.above_conjunct-self-inside.result in
    let more = c.above_conjunct-self-inside.ensures.least in (
      above-one_more inside.above n _ _ c.args.c c.push_reserved.ensures.items more
          (above-popped inside.above inside.conjuncts.items _ _ c.pop.ensures.items c.self.invariant.0)
          c.above_conjunct-self-inside.ensures.below,
      above-bindings_more inside.above n inside.latest inside.bindings.items more c.self.invariant.1,
    )
