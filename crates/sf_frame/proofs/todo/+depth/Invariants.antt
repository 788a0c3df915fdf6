use Rattle.std.proofs.Common.{◌≡◌, ◌-◌, ◌^◌, drop, max, min}
use Rattle.sf_core.specs.Program.Formed.{block_depth}
use Rattle.sf_core.specs.Program.View.{block_of}
use Rattle.sf_frame.proofs.todo.+depth.Given as goal

-- the deepest so far and what is left
abbrev pub invariant-depth_of-loop-c : goal.invariant-depth_of-loop-c
invariant-depth_of-loop-c l = max l.deepest (min (block_depth (block_of (drop l.c-index l.block)))
    (2 ^ 64 - 1))
    ≡ min (block_depth (block_of l.block)) (2 ^ 64 - 1)
