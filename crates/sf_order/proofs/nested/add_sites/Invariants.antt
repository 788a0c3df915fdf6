use Rattle.std.proofs.Common.{◌≡◌, ◌++◌, map}
use Rattle.sf_core.specs.Program.Sites.{site_of}
use Rattle.sf_order.proofs.nested.add_sites.Given as goal

-- those so far are there
abbrev pub invariant-loop-s : goal.invariant-loop-s
invariant-loop-s l = map site_of l.all.items ≡ map site_of l.initial.all.items ++ map site_of l.yielded
