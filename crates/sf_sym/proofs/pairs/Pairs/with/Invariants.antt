use Rattle.std.proofs.Common.{◌≡◌, ◌++◌, map, length}
use Rattle.sf_sym.specs.Equalities.{put_for}
use Rattle.sf_sym.proofs.pairs.Pairs.with.Given as goal

abbrev pub invariant-loop-p : goal.invariant-loop-p
invariant-loop-p l =
    l.pairs ++ map (λ p. (put_for l.r.symbol l.r.by p.0, put_for l.r.symbol l.r.by p.1)) l.left
    ≡ map (λ p. (put_for l.r.symbol l.r.by p.0, put_for l.r.symbol l.r.by p.1)) l.self

abbrev pub decreases-loop-p : goal.decreases-loop-p
decreases-loop-p l = length l.left
