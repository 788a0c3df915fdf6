use Rattle.std.proofs.Common.{◌≡◌, drop}
use Rattle.sf_vars.specs.Checked.Search.{free_unheld}
use Rattle.sf_vars.proofs.unheld.free_unheld.Given as goal

-- what was passed breaks nothing
abbrev pub invariant-loop-x : goal.invariant-loop-x
invariant-loop-x l = free_unheld l.held l.place l.xs ≡ free_unheld l.held l.place (drop l.x-index l.xs)
