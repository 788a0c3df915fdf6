use Rattle.std.proofs.Common.{◌≡◌, drop, map, ◌++◌}
use Rattle.sf_core.specs.Program.Sites.{site_of}
use Rattle.sf_calls.specs.Checked.Listed.{entered_in}
use Rattle.sf_calls.proofs.regions.add_regions.Given as goal

-- those so far and those of what is left are all
abbrev pub invariant-loop-s : goal.invariant-loop-s
invariant-loop-s l =
    l.entered.items ++ entered_in (map site_of (drop l.s-index l.sites)) ≡ l.initial.entered.items
    ++ entered_in (map site_of l.sites)
