use Rattle.std.proofs.Common.{◌≡◌, ◌++◌, not, drop, filter}
use Rattle.std.specs.List.{flat_map}
use Rattle.sf_core.specs.Assertions.Scopes.{is_made_by}
use Rattle.sf_precise.proofs.outer.add_all_not_made.Given as goal

-- those so far and those of what is left are all
abbrev pub invariant-loop-ns : goal.invariant-loop-ns
invariant-loop-ns l =
    l.found.items ++ flat_map (λ ns. filter (λ n. not (is_made_by l.made n)) ns.items)
    (drop l.ns-index l.lists) ≡ l.initial.found.items
    ++ flat_map (λ ns. filter (λ n. not (is_made_by l.made n)) ns.items) l.lists
