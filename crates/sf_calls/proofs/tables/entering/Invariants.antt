use Rattle.std.proofs.Common.{◌≡◌, map, take}
use Rattle.sf_calls.specs.Checked.Listed.{is_entered}
use Rattle.sf_calls.proofs.tables.entering.Given as goal

-- the visited so far
abbrev pub invariant-loop-t : goal.invariant-loop-t
invariant-loop-t l = l.visited.items ≡ map (λ t. is_entered l.r t.entered.items) (take l.t-index l.summaries)
