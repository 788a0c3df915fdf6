use Rattle.std.proofs.Common.{◌≡◌, length}
use Rattle.std.specs.List.{list_any}
use Rattle.sf_sym.specs.Checked.Wanted.{are_first, is_first}
use Rattle.sf_sym.proofs.store.Store.has_first.Given as goal

abbrev pub invariant-loop-row : goal.invariant-loop-row
invariant-loop-row l = list_any (is_first l.self l.t l.u) l.left ≡ are_first l.self l.t l.u

abbrev pub decreases-loop-row : goal.decreases-loop-row
decreases-loop-row l = length l.left
