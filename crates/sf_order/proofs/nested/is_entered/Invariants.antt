use Rattle.std.proofs.Common.{◌≡◌, drop}
use Rattle.sf_calls.specs.Checked.Listed.{is_entered}
use Rattle.sf_order.proofs.nested.is_entered.Given as goal

-- what was passed is another
abbrev pub invariant-loop-q : goal.invariant-loop-q
invariant-loop-q l = is_entered l.r l.entered ≡ is_entered l.r (drop l.q-index l.entered)
