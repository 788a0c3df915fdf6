use Rattle.std.proofs.Common.{◌≡◌, ◌+◌, ◌≤◌, length}
use Rattle.sf_consume.specs.Checked.Fits.{fit_of}
use Rattle.sf_sym.specs.Pending.{existentials_in}
use Rattle.sf_consume.specs.Subtract.{fit_fields}
use Rattle.sf_consume.proofs.fit.fit_fields.Given as goal

abbrev pub invariant-loop-first : goal.invariant-loop-first
invariant-loop-first l = record {
  same : fit_fields (fit_of l.bindings l.fn.fit) l.wanted ≡ fit_fields (fit_of l.bindings l.fit) l.left;
  rising : l.fn.fit.next_sym ≤ l.fit.next_sym;
  symbols : l.fit.next_sym + existentials_in l.left ≤ l.fn.fit.next_sym + existentials_in l.wanted;
}

abbrev pub decreases-loop-first : goal.decreases-loop-first
decreases-loop-first l = length l.left
