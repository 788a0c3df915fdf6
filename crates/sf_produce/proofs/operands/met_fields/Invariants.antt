use Rattle.std.proofs.Common.{◌≡◌, ◌+◌, ◌≤◌, [], length}
use Rattle.sf_sym.specs.Pending.{existentials_in}
use Rattle.sf_produce.specs.Add.{met_fields}
use Rattle.sf_produce.proofs.operands.met_fields.Given as goal

abbrev pub invariant-loop-first : goal.invariant-loop-first
invariant-loop-first l = record {
  same : met_fields l.fn.state l.fn.given.bindings l.fields []
      ≡ met_fields l.state l.given.bindings l.left l.made;
  conjuncts : l.given.conjuncts ≡ l.fn.given.conjuncts;
  atoms : l.state.next_atom ≡ l.fn.state.next_atom;
  symbols : l.state.next_sym + existentials_in l.left ≤ l.fn.state.next_sym + existentials_in l.fields;
}

abbrev pub decreases-loop-first : goal.decreases-loop-first
decreases-loop-first l = length l.left
