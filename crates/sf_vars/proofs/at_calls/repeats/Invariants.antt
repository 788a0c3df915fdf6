use Rattle.std.proofs.Common.{◌≡◌, [], drop, take}
use Rattle.sf_vars.specs.Checked.Search.{repeats}
use Rattle.sf_vars.proofs.at_calls.repeats.Given as goal

-- what was passed repeats nothing, and is what comes before the rest
abbrev pub invariant-loop-i : goal.invariant-loop-i
invariant-loop-i l = repeats [] l.references ≡ repeats (take l.i l.references) (drop l.i l.references)
