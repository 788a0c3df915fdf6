use Rattle.std.proofs.Common.{◌≡◌, ◌++◌, drop}
use Rattle.std.specs.List.{flat_map}
use Rattle.sf_state.specs.Finishing.{values_of}
use Rattle.sf_state.proofs.finish.values_of.Given as goal

-- with those of the resources that are left, the values so far are all
abbrev pub invariant-loop-shared : goal.invariant-loop-shared
invariant-loop-shared l = l.values.items ++ flat_map (λ vs. vs.items) (drop l.shared-index l.shared-items)
    ≡ values_of l.vars
