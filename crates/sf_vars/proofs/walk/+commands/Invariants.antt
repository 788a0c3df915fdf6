use Rattle.std.proofs.Common.{◌≡◌, drop}
use Rattle.sf_core.specs.Program.View.{block_of}
use Rattle.sf_vars.specs.Checked.Search.{BlockFits, in_block}
use Rattle.sf_vars.proofs.walk.+commands.Given as goal

-- what was passed breaks nothing, and what is left fits
abbrev pub invariant-in_block-loop-c : goal.invariant-in_block-loop-c
invariant-in_block-loop-c l = record {
  same : in_block l.calls l.held (block_of l.body)
      ≡ in_block l.calls l.held (block_of (drop l.c-index l.body));
  fits : BlockFits l.calls (block_of (drop l.c-index l.body));
}
