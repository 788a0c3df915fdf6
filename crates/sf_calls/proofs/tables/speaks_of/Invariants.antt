use Rattle.std.proofs.Common.{◌≡◌, drop}
use Rattle.sf_calls.specs.Checked.Summaries.{speaks_of}
use Rattle.sf_calls.proofs.tables.speaks_of.Given as goal

-- what was passed is of others
abbrev pub invariant-loop-x : goal.invariant-loop-x
invariant-loop-x l = speaks_of l.r l.xs ≡ speaks_of l.r (drop l.x-index l.xs)
