use Rattle.std.proofs.Common.{◌≡◌, length}
use Rattle.sf_sym.specs.Variables.{remove_vars}
use Rattle.sf_sym.proofs.vars.VarTerms.remove_all.Given as goal

abbrev pub invariant-loop-first : goal.invariant-loop-first
invariant-loop-first l = remove_vars l.xs l.initial.self ≡ remove_vars l.left l.self

abbrev pub decreases-loop-first : goal.decreases-loop-first
decreases-loop-first l = length l.left
