use Rattle.std.proofs.Common.{List, map, rules, subst, sym, take}
use Rattle.sf_core.specs.declared.ordered.Ordered.{Ordered}
use Rattle.sf_core.specs.Program.ProgramView.{program_of}
use Rattle.sf_core.specs.Program.View.{assertion_of}
use Rattle.sf_precise.specs.Annotations.{AreOrdersOf}
use Rattle.sf_precise.proofs.Stored.{invariants-there}
use Rattle.sf_precise.proofs.arranged.Arranged.invariants.Goals as goal

pub returns : goal.returns
returns c =
    let a = c.args.self.now in
    subst
    (λ (os : List Ordered). AreOrdersOf (map (λ r. r.invariant) (program_of a.program).resources)
    (map (λ o. assertion_of o.assertion) (take c.len.result os)))
    (sym c.deref.ensures.value)
    (invariants-there a (c.orders_from_truncation.ensures _ _ a.ordered) c.len.result (search rules))
