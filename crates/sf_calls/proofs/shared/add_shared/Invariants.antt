use Rattle.std.proofs.Common.{◌≡◌, drop, map, ◌++◌}
use Rattle.sf_core.specs.Program.Sites.{site_of}
use Rattle.sf_calls.specs.Checked.Listed.{shared_in}
use Rattle.sf_calls.proofs.shared.add_shared.Given as goal

-- those so far and those of what is left are all
abbrev pub invariant-loop-s : goal.invariant-loop-s
invariant-loop-s l =
    l.named.items ++ shared_in (map site_of (drop l.s-index l.sites)) ≡ l.initial.named.items
    ++ shared_in (map site_of l.sites)
