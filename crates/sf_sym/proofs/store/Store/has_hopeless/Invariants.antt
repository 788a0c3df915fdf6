use Rattle.std.proofs.Common.{◌≡◌, length}
use Rattle.std.specs.List.{list_any}
use Rattle.sf_sym.specs.Checked.Keeping.{is_hopeless}
use Rattle.sf_sym.specs.Checked.Wanted.{all_rows}
use Rattle.sf_sym.proofs.store.Store.has_hopeless.Given as goal

abbrev pub invariant-loop-row : goal.invariant-loop-row
invariant-loop-row l =
    list_any (is_hopeless l.self.apart (all_rows l.self)) l.left
    ≡ list_any (is_hopeless l.self.apart (all_rows l.self)) (all_rows l.self)

abbrev pub decreases-loop-row : goal.decreases-loop-row
decreases-loop-row l = length l.left
