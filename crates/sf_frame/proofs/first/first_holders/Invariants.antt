use Rattle.std.proofs.Common.{◌≡◌, [], cond, ltb, None, Some}
use Rattle.sf_base.specs.declared.ids.ResId.{ResId}
use Rattle.sf_frame.specs.Commons.{held_of}
use Rattle.sf_frame.proofs.first.first_holders.Given as goal

-- the first so many are held
abbrev pub invariant-loop-r : goal.invariant-loop-r
invariant-loop-r l = (q : ResId) → held_of l.held q ≡ cond (ltb q.0 l.r) (Some []) None
