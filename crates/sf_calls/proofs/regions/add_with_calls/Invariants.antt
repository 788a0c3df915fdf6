use Rattle.std.proofs.Common.{◌≡◌, drop, map, ◌++◌}
use Rattle.sf_core.specs.Program.Sites.{site_of}
use Rattle.sf_calls.specs.Checked.Listed.{with_calls_in}
use Rattle.sf_calls.proofs.regions.add_with_calls.Given as goal

-- those so far and those of what is left are all
abbrev pub invariant-loop-s : goal.invariant-loop-s
invariant-loop-s l =
    l.with_calls.items ++ with_calls_in (map site_of (drop l.s-index l.sites)) ≡ l.initial.with_calls.items
    ++ with_calls_in (map site_of l.sites)
