use Rattle.std.proofs.Common.{take}
use Rattle.sf_order.specs.Checked.Rows.{Marks, taken_by}
use Rattle.sf_order.proofs.nested.mark_taken.Given as goal

-- those so far are marked
abbrev pub invariant-loop-q : goal.invariant-loop-q
invariant-loop-q l = Marks l.initial.row.items l.row.items (take l.q-index (taken_by l.c l.fn.f))
