use Rattle.std.proofs.Common.{Some, None, get_or, ap, ◌∙◌}
use Rattle.sf_sym.proofs.AboveSymbols.{above-all_more, above-bound}
use Rattle.sf_sym.proofs.pending.Pending.bind.Goals as goal

pub invariant_of-self : goal.invariant_of-self
invariant_of-self c =
    let inside = c.self.inside in
    let above = c.above_latest-self-inside in (
      above-all_more inside.above above.result inside.conjuncts.items above.ensures.least c.self.invariant.0,
      above-bound inside.above above.result inside.latest c.args.n inside.bindings.items (Some c.args.t)
          above.ensures.least c.self.invariant.1
          (λ t e. above.ensures.below t (ap (λ bs. get_or bs inside.latest None) c.deref.ensures.value ∙ e)),
    )
