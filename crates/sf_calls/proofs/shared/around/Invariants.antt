use Rattle.std.proofs.Common.{◌≡◌, ◌++◌, take}
use Rattle.sf_core.specs.Program.Heads.{head_regions}
use Rattle.sf_core.specs.Program.View.{command_of}
use Rattle.sf_calls.proofs.shared.around.Given as goal

-- its own, and those so far
abbrev pub invariant-loop-r : goal.invariant-loop-r
invariant-loop-r l = l.around.items ≡ head_regions (command_of l.fn.s.command.now) ++ take l.r-index l.s.entered.items
