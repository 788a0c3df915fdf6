use Rattle.std.proofs.Common.{◌≡◌, ◌+◌, ◌≤◌, drop}
use Rattle.sf_lex.specs.Reading.{place_behind}
use Rattle.sf_lex.proofs.scan.place_behind.Given as goal

-- the place after the bytes that are left is that after all; a place is no further than the bytes read
abbrev pub invariant-loop-byte : goal.invariant-loop-byte
invariant-loop-byte l = record {
  behind : place_behind l.at (drop l.byte-index l.bytes) ≡ place_behind l.fn.place l.bytes;
  line : l.at.line ≤ l.fn.place.line + l.byte-index;
  column : l.at.column ≤ l.fn.place.column + l.byte-index;
}
