use Rattle.std.proofs.Common.{◌≤◌, arith, sym, subst}
use Rattle.sf_core.specs.Program.View.{conjunct_of}
use Rattle.sf_core.specs.Assertions.Occurs.{OccursInOne}
use Rattle.sf_sym.specs.declared.term.Term.{Term}
use Rattle.sf_sym.specs.Checked.Above.{ConjunctsBelow}
use Rattle.sf_sym.proofs.AboveSymbols.{above-bindings_more, above-more, above-one_more, above-popped}
use Rattle.sf_sym.proofs.pending.Pending.split_first.Goals as goal

pub invariant_of-self-2 : goal.invariant_of-self-2
invariant_of-self-2 c =
    let inside = c.self.inside in
    let n = c.above_conjunct-self-inside.result in
    let more : inside.above ≤ n =
    omega (arith, c.above_conjunct.ensures.least, c.above_conjunct-self-inside.ensures.least) in
    let same : n ≤ n = omega arith in
    let old = subst (ConjunctsBelow inside.above) (sym c.in_ok-reserve.ensures.items) c.self.invariant.0 in (
      above-one_more n n _ _ c.args.one c.push_reserved-2.ensures.items same
          (above-one_more inside.above n _ _ c.args.two c.push_reserved.ensures.items more
          (above-popped inside.above _ _ _ c.in-Some.ensures.items old)
          c.above_conjunct-self-inside.ensures.below)
          (above-more c.above_conjunct.result n (OccursInOne (conjunct_of {E = Term} c.args.one))
          c.above_conjunct-self-inside.ensures.least c.above_conjunct.ensures.below),
      above-bindings_more inside.above n inside.latest inside.bindings.items more c.self.invariant.1,
    )
