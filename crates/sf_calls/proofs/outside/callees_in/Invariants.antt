use Rattle.std.proofs.Common.{◌≡◌, drop, map, ◌++◌}
use Rattle.sf_core.specs.Program.Sites.{site_of}
use Rattle.sf_calls.specs.Checked.Tests.{callees_in}
use Rattle.sf_calls.proofs.outside.callees_in.Given as goal

-- those so far and those of what is left are all
abbrev pub invariant-loop-s : goal.invariant-loop-s
invariant-loop-s l =
    l.callees.items ++ callees_in l.but (map site_of (drop l.s-index l.sites)) ≡ callees_in l.but (map site_of l.sites)
