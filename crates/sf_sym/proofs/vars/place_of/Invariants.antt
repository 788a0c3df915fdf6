use Rattle.std.proofs.Common.{◌≡◌, ◌+◌, length}
use Rattle.sf_sym.specs.Checked.VariablePlaces.{place_of}
use Rattle.sf_sym.proofs.vars.place_of.Given as goal

abbrev pub invariant-loop-first : goal.invariant-loop-first
invariant-loop-first l = record {
  place : place_of l.x l.vars ≡ l.before + place_of l.x l.left;
  count : l.before + length l.left ≡ length l.vars;
}

abbrev pub decreases-loop-first : goal.decreases-loop-first
decreases-loop-first l = length l.left
