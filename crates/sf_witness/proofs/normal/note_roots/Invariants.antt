use Rattle.std.proofs.Common.{◌≡◌, ◌++◌, List, length}
use Rattle.std.specs.BTreeSet.{contains}
use Rattle.std.specs.Ordering.{nat_cmp}
use Rattle.sf_sym.specs.declared.term.Term.{Term}
use Rattle.sf_witness.specs.Checked.Own.{are_new}
use Rattle.sf_witness.specs.Normal.{all_roots}
use Rattle.sf_witness.proofs.normal.note_roots.Given as goal

abbrev pub invariant-loop-first : goal.invariant-loop-first
invariant-loop-first l = (later : List Term)
    → are_new (contains nat_cmp l.initial.seen) (all_roots l.atoms ++ later)
    ≡ are_new (contains nat_cmp l.seen) (all_roots l.left ++ later)

abbrev pub decreases-loop-first : goal.decreases-loop-first
decreases-loop-first l = length l.left
