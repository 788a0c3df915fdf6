use Rattle.std.proofs.Common.{◌≡◌, ◌++◌, drop, map}
use Rattle.sf_sym.specs.State.{term}
use Rattle.sf_rules.proofs.calls.values_of.Given as goal

abbrev pub invariant-loop-e : goal.invariant-loop-e
invariant-loop-e l = l.terms.items ++ map (term l.vars) (drop l.e-index l.values) ≡ map (term l.vars) l.values
