use Rattle.std.proofs.Common.{◌≡◌, ◌+◌, length}
use Rattle.sf_sym.specs.Checked.Places.{place_of}
use Rattle.sf_sym.proofs.fields.place_of.Given as goal

abbrev pub invariant-loop-first : goal.invariant-loop-first
invariant-loop-first l = record {
  place : place_of l.f l.fields ≡ l.before + place_of l.f l.left;
  count : l.before + length l.left ≡ length l.fields;
}

abbrev pub decreases-loop-first : goal.decreases-loop-first
decreases-loop-first l = length l.left
