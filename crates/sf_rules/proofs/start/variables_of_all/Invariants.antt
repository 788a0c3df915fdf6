use Rattle.std.proofs.Common.{◌≡◌, ◌++◌, length}
use Rattle.std.specs.List.{flat_map}
use Rattle.sf_core.specs.Program.ProgramView.{program_of}
use Rattle.sf_rules.specs.Resources.{variables_of}
use Rattle.sf_rules.proofs.start.variables_of_all.Given as goal

abbrev pub invariant-loop-r : goal.invariant-loop-r
invariant-loop-r l =
    flat_map (variables_of (program_of l.p)) l.rs ≡ l.found.items ++ flat_map (variables_of (program_of l.p)) l.left

abbrev pub decreases-loop-r : goal.decreases-loop-r
decreases-loop-r l = length l.left
