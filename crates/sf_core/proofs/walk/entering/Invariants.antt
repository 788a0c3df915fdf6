use Rattle.std.proofs.Common.{◌≡◌, ◌∷◌, take}
use Rattle.sf_core.proofs.walk.entering.Given as goal

-- the new one, and those so far
abbrev pub invariant-loop-q : goal.invariant-loop-q
invariant-loop-q l = l.inside.items ≡ l.fn.r ∷ take l.q-index l.entered
