use Rattle.std.proofs.Common.{◌≡◌, drop}
use Rattle.sf_calls.specs.Checked.Tests.{in_values}
use Rattle.sf_calls.proofs.occurs.in_values.Given as goal

-- what was passed has it not
abbrev pub invariant-loop-e : goal.invariant-loop-e
invariant-loop-e l = in_values l.x l.values ≡ in_values l.x (drop l.e-index l.values)
