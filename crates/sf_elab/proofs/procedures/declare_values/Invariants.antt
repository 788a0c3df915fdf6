use Rattle.std.proofs.Common.{◌≡◌, [], ◌∷◌, drop, length, map, ◌++◌}
use Rattle.std.specs.List.{filter}
use Rattle.sf_core.specs.Program.View.{command_of}
use Rattle.sf_elab.specs.Bodies.Procedures.{body_values, first_assignments}
use Rattle.sf_elab.specs.Names.Table.{has}
use Rattle.sf_elab.specs.Names.Texts.{text}
use Rattle.sf_elab.proofs.procedures.declare_values.Given as goal

-- those so far and those of what is left are all
abbrev pub invariant-loop-word : goal.invariant-loop-word
invariant-loop-word l = record {
  declared : l.body.declared ++ drop l.word-index l.words ≡ l.fn.body.declared ++ l.words;
  own : body_values l.bytes (λ w. has (text l.bytes w) l.set) (length l.body.declared) (length l.body.names) (drop l.word-index l.words) l.body.own ≡ body_values l.bytes (λ w. has (text l.bytes w) l.set) (length l.fn.body.declared) (length l.fn.body.names) l.words l.fn.body.own;
  names : l.body.names ++ map (λ w. text l.bytes w ++ 39 ∷ []) (filter (λ w. has (text l.bytes w) l.set) (drop l.word-index l.words)) ≡ l.fn.body.names ++ map (λ w. text l.bytes w ++ 39 ∷ []) (filter (λ w. has (text l.bytes w) l.set) l.words);
  first : map command_of l.body.first.items ++ first_assignments (λ w. has (text l.bytes w) l.set) l.at (length l.body.declared) (length l.body.names) (drop l.word-index l.words) ≡ map command_of l.fn.body.first.items ++ first_assignments (λ w. has (text l.bytes w) l.set) l.at (length l.fn.body.declared) (length l.fn.body.names) l.words;
}
