use Rattle.std.proofs.Common.{◌≡◌, ◌<◌, ℕ, length, get_or}
use Rattle.sf_calls.specs.Checked.Visited.{chosen}
use Rattle.sf_calls.proofs.tables.sets.Given as goal

-- the sets so far
abbrev pub invariant-loop-f : goal.invariant-loop-f
invariant-loop-f g l = record {
  size : length l.sets.items ≡ l.f;
  each : (k : ℕ) → k < l.f → (d : _) → get_or l.sets.items k d ≡ chosen k l.keys l.rows;
}
