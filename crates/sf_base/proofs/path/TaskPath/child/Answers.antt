use Rattle.std.proofs.Common.{◌≡◌, ◌≤◌, length, arith}
use Rattle.std.proofs.lemmas.List.{length-set, length-take-le}
use Rattle.sf_base.proofs.TaskPaths.{drop-set-replicate}
use Rattle.sf_base.proofs.path.TaskPath.child.Goals as goal

pub invariant_of-result : goal.invariant_of-result
invariant_of-result c =
    let kept : c.self.inside.len ≤ length c.self.inside.turns = rw c.self.invariant.full
    c.self.invariant.fits in
    let len : length c.args.self ≡ c.self.inside.len = rw (← c.self.view_is) (length-take-le _ _ kept) in
    record {
      fits = omega arith;
      full = rw length-set c.self.invariant.full;
      rest = drop-set-replicate _ _ _ c.self.invariant.rest;
    }
