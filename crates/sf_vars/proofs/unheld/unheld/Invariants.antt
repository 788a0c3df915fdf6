use Rattle.std.proofs.Common.{◌≡◌, drop}
use Rattle.sf_vars.specs.Checked.Search.{unheld}
use Rattle.sf_vars.proofs.unheld.unheld.Given as goal

-- what was passed breaks nothing
abbrev pub invariant-loop-x : goal.invariant-loop-x
invariant-loop-x l = unheld l.held l.xs ≡ unheld l.held (drop l.x-index l.xs)
