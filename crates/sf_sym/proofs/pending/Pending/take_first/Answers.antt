use Rattle.sf_sym.proofs.AboveSymbols.{above-popped}
use Rattle.sf_sym.proofs.pending.Pending.take_first.Goals as goal

pub invariant_of-self : goal.invariant_of-self
invariant_of-self c =
    let inside = c.self.inside in
    let left = above-popped inside.above inside.conjuncts.items _ _ c.pop.ensures.items c.self.invariant.0 in
    (left, c.self.invariant.1)
