use Rattle.std.proofs.Common.{◌≡◌, ◌+◌, drop, length, [], ◌++◌}
use Rattle.sf_elab.specs.Names.Declarations.{shared_by, numbered, shared_faults}
use Rattle.sf_elab.proofs.declarations.declare_shared.Given as goal

-- those so far and those of what is left are all
abbrev pub invariant-loop-word : goal.invariant-loop-word
invariant-loop-word l = record {
  count : length l.declared ≡ l.first + l.word-index;
  declared : l.declared ++ drop l.word-index l.words ≡ l.fn.declared ++ l.words;
  table : numbered l.bytes (shared_by l.k) l.word-index (drop l.word-index l.words) l.all ≡ numbered l.bytes (shared_by l.k) 0 l.words l.fn.all;
  faults : l.found.items ++ shared_faults l.bytes l.k (length l.declared) l.word-index (drop l.word-index l.words) l.own l.all ≡ l.fn.found.items ++ shared_faults l.bytes l.k (length l.fn.declared) 0 l.words [] l.fn.all;
}
