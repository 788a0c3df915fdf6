use Rattle.std.proofs.Common.{◌≡◌, ◌++◌, drop}
use Rattle.sf_calls.specs.Checked.Visited.{chosen}
use Rattle.sf_calls.proofs.tables.chosen.Given as goal

-- those so far and those of what is left are all
abbrev pub invariant-loop-i : goal.invariant-loop-i
invariant-loop-i g l =
    l.found.items ++ chosen l.f (drop l.i l.keys) (drop l.i l.rows) ≡ chosen l.f l.keys l.rows
