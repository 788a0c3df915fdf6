use Rattle.std.proofs.Common.{◌≡◌, ◌++◌, drop, map}
use Rattle.std.specs.List.{flat_map}
use Rattle.sf_core.specs.Program.Heads.{head_invariants}
use Rattle.sf_core.specs.Program.Sites.{site_of}
use Rattle.sf_core.specs.Program.View.{assertion_of}
use Rattle.sf_precise.proofs.annotations.add_loops.Given as goal

-- those so far and those of what is left are all
abbrev pub invariant-loop-s : goal.invariant-loop-s
invariant-loop-s l =
    map (λ a. assertion_of a.now) l.notes.items
    ++ flat_map (λ s. head_invariants s.command) (map site_of (drop l.s-index l.sites))
    ≡ map (λ a. assertion_of a.now) l.initial.notes.items
    ++ flat_map (λ s. head_invariants s.command) (map site_of l.sites)
