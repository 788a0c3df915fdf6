use Rattle.std.proofs.Common.{◌≡◌, ◌++◌, map, take, drop}
use Rattle.sf_sym.specs.Equalities.{put_for}
use Rattle.sf_sym.proofs.replace.Replacement.in_vars.Given as goal

abbrev pub invariant-loop-x : goal.invariant-loop-x
invariant-loop-x l =
    l.vars ≡ map (λ x. (x.0, put_for l.self.symbol l.self.by x.1)) (take l.x-index l.initial.vars) ++ drop l.x-index l.initial.vars
