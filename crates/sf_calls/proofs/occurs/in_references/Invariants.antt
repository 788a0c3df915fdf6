use Rattle.std.proofs.Common.{◌≡◌, drop}
use Rattle.sf_calls.specs.Checked.Tests.{in_references}
use Rattle.sf_calls.proofs.occurs.in_references.Given as goal

-- what was passed has it not
abbrev pub invariant-loop-y : goal.invariant-loop-y
invariant-loop-y l = in_references l.x l.references ≡ in_references l.x (drop l.y-index l.references)
