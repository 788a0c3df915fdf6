use Rattle.std.proofs.Common.{◌≡◌, drop}
use Rattle.sf_core.specs.Program.View.{call_of}
use Rattle.sf_vars.specs.Checked.Search.{shared_among}
use Rattle.sf_vars.proofs.parallel.shared_among.Given as goal

-- what was passed breaks nothing
abbrev pub invariant-loop-x : goal.invariant-loop-x
invariant-loop-x l = shared_among l.calls (call_of l.left) (call_of l.right) l.words
    ≡ shared_among l.calls (call_of l.left) (call_of l.right) (drop l.x-index l.words)
