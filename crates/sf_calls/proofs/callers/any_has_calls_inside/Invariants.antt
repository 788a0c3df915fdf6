use Rattle.std.proofs.Common.{◌≡◌, drop}
use Rattle.sf_calls.specs.Checked.Summaries.{has_calls_inside}
use Rattle.sf_calls.proofs.callers.any_has_calls_inside.Given as goal

-- what was passed has none
abbrev pub invariant-loop-t : goal.invariant-loop-t
invariant-loop-t l = has_calls_inside l.r l.summaries ≡ has_calls_inside l.r (drop l.t-index l.summaries)
