use Rattle.std.proofs.Common.{◌≡◌, ◌++◌, not, drop, filter}
use Rattle.sf_core.specs.Assertions.Scopes.{is_made_by}
use Rattle.sf_precise.proofs.outer.add_not_made.Given as goal

-- those so far and those of what is left are all
abbrev pub invariant-loop-n : goal.invariant-loop-n
invariant-loop-n l =
    l.found.items ++ filter (λ n. not (is_made_by l.made n)) (drop l.n-index l.ns) ≡ l.initial.found.items
    ++ filter (λ n. not (is_made_by l.made n)) l.ns
