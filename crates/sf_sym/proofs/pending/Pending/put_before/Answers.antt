use Rattle.std.proofs.Common.{sym, subst}
use Rattle.sf_sym.specs.Checked.Above.{ConjunctsBelow}
use Rattle.sf_sym.proofs.AboveSymbols.{above-all_more, above-append, above-bindings_more}
use Rattle.sf_sym.proofs.pending.Pending.put_before.Goals as goal

pub invariant_of-self-2 : goal.invariant_of-self-2
invariant_of-self-2 c =
    let inside = c.self.inside in
    let n = c.above_conjuncts-above.result in
    let more = c.above_conjuncts-above.ensures.least in (
      subst (ConjunctsBelow n) (sym c.in_ok-append.ensures.items)
          (above-append n inside.conjuncts.items _
          (above-all_more inside.above n inside.conjuncts.items more c.self.invariant.0)
          (subst (ConjunctsBelow n) c.deref.ensures.value c.above_conjuncts-above.ensures.below)),
      above-bindings_more inside.above n inside.latest inside.bindings.items more c.self.invariant.1,
    )
