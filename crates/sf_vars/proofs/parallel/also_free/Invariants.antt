use Rattle.std.proofs.Common.{◌≡◌, drop}
use Rattle.sf_vars.specs.Checked.Search.{also_free}
use Rattle.sf_vars.proofs.parallel.also_free.Given as goal

-- what was passed breaks nothing
abbrev pub invariant-loop-x : goal.invariant-loop-x
invariant-loop-x l = also_free l.calls l.place l.g l.xs ≡ also_free l.calls l.place l.g (drop l.x-index l.xs)
