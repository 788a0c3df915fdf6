use Rattle.std.proofs.Common.{◌≡◌, drop, map, ◌++◌}
use Rattle.sf_core.specs.Program.Heads.{sites}
use Rattle.sf_core.specs.Program.Sites.{site_of}
use Rattle.sf_core.specs.Program.View.{block_of}
use Rattle.sf_core.proofs.walk.+sites.Given as goal

-- those so far and those of what is left are all
abbrev pub invariant-add_sites-loop-c : goal.invariant-add_sites-loop-c
invariant-add_sites-loop-c l =
    map site_of l.found.items ++ sites l.entered (block_of (drop l.c-index l.body))
    ≡ map site_of l.initial.found.items ++ sites l.entered (block_of l.body)
