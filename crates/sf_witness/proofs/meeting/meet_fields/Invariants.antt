use Rattle.std.proofs.Common.{ℕ, ◌↔◌, length}
use Rattle.sf_base.specs.declared.value.Value.{Value}
use Rattle.sf_core.specs.Assertions.Sat.{HasFields, operand}
use Rattle.sf_heap.specs.Cells.{cell_of}
use Rattle.sf_sym.specs.Holds.{IsBound, term_value}
use Rattle.sf_witness.specs.Checked.Meeting.{Agrees, IsConsistent}
use Rattle.sf_witness.specs.Located.{located}
use Rattle.sf_witness.proofs.meeting.meet_fields.Given as goal

abbrev pub invariant-loop-first : goal.invariant-loop-first
invariant-loop-first l = record {
  consistent : IsConsistent l.bindings l.met.items;
  meets : (some : ℕ → Value) → IsBound located l.bindings some
      → (Agrees l.initial.met.items some
      × HasFields (operand (term_value located) some) l.fields (cell_of l.cell))
      ↔ (Agrees l.met.items some × HasFields (operand (term_value located) some) l.left (cell_of l.cell));
}

abbrev pub decreases-loop-first : goal.decreases-loop-first
decreases-loop-first l = length l.left
