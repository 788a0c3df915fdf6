use Rattle.std.proofs.Common.{◌≡◌, drop, ◌++◌}
use Rattle.sf_calls.specs.Checked.Listed.{kept_of}
use Rattle.sf_calls.proofs.shared.add_kept.Given as goal

-- those so far and those of what is left are all
abbrev pub invariant-loop-x : goal.invariant-loop-x
invariant-loop-x l =
    l.named.items ++ kept_of l.entered (drop l.x-index l.words) ≡ l.initial.named.items
    ++ kept_of l.entered l.words
