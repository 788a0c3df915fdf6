use Rattle.std.proofs.Common.{◌≤◌, ◌-◌, length}
use Rattle.sf_lex.proofs.Steps.{ReadSo}
use Rattle.sf_lex.proofs.scan.scan.Given as goal

abbrev pub invariant-loop-start : goal.invariant-loop-start
invariant-loop-start l = record {
  read : ReadSo l.bytes l.start l.place l.found.items;
  within : l.start ≤ length l.bytes;
}

abbrev pub decreases-loop-start : goal.decreases-loop-start
decreases-loop-start l = length l.initial.bytes - l.start
