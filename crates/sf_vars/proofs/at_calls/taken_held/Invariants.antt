use Rattle.std.proofs.Common.{◌≡◌, drop}
use Rattle.sf_vars.specs.Checked.Search.{taken_held}
use Rattle.sf_vars.proofs.at_calls.taken_held.Given as goal

-- what was passed breaks nothing
abbrev pub invariant-loop-r : goal.invariant-loop-r
invariant-loop-r l =
    taken_held l.held l.place l.resources ≡ taken_held l.held l.place (drop l.r-index l.resources)
