use Rattle.std.proofs.Common.{◌≡◌, drop}
use Rattle.sf_vars.specs.Checked.Search.{none_held, with_all}
use Rattle.sf_vars.proofs.held.Held.of.Given as goal

-- those that are left are missing
abbrev pub invariant-loop-r : goal.invariant-loop-r
invariant-loop-r l = with_all none_held l.resources ≡ with_all l.held (drop l.r-index l.resources)
