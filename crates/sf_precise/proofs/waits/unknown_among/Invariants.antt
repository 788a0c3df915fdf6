use Rattle.std.proofs.Common.{◌≡◌, ◌++◌, drop}
use Rattle.sf_precise.specs.Checked.Waits.{known_outside, unknown_among}
use Rattle.sf_precise.proofs.waits.unknown_among.Given as goal

-- those so far and those of what is left are all
abbrev pub invariant-loop-n : goal.invariant-loop-n
invariant-loop-n l =
    l.found.items ++ unknown_among (known_outside l.start) (drop l.n-index l.ns)
    ≡ unknown_among (known_outside l.start) l.ns
