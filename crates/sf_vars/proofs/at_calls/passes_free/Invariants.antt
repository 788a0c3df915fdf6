use Rattle.std.proofs.Common.{◌≡◌, drop}
use Rattle.sf_calls.specs.declared.breach.Breach.TheVariants.{ReferenceIsFree}
use Rattle.sf_vars.specs.Checked.Search.{found, free_of, is_in, search_in}
use Rattle.sf_vars.proofs.at_calls.passes_free.Given as goal

-- what was passed breaks nothing
abbrev pub invariant-loop-x : goal.invariant-loop-x
invariant-loop-x l =
    search_in (λ x. found (is_in (free_of l.calls l.call.callee) x.var) (ReferenceIsFree x.place x.var))
    l.call.references.items
    ≡ search_in (λ x. found (is_in (free_of l.calls l.call.callee) x.var) (ReferenceIsFree x.place x.var))
    (drop l.x-index l.call.references.items)
