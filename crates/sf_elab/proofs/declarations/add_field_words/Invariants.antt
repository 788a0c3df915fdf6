use Rattle.std.proofs.Common.{◌≡◌, drop, map, ◌++◌}
use Rattle.sf_ast.specs.View.{item_of}
use Rattle.sf_elab.specs.Names.Declarations.{field_words}
use Rattle.sf_elab.proofs.declarations.add_field_words.Given as goal

-- those so far and those of what is left are all
abbrev pub invariant-loop-item : goal.invariant-loop-item
invariant-loop-item l = l.words.items ++ field_words (map item_of (drop l.item-index l.items)) ≡ l.initial.words.items ++ field_words (map item_of l.items)
