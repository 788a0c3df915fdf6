use Rattle.std.proofs.Common.{◌≡◌, drop, map, ◌++◌}
use Rattle.sf_ast.specs.View.{names_of}
use Rattle.sf_elab.specs.Bodies.Procedures.{local_words}
use Rattle.sf_elab.proofs.procedures.local_words.Given as goal

-- those so far and those of what is left are all
abbrev pub invariant-loop-names : goal.invariant-loop-names
invariant-loop-names l = l.words.items ++ local_words (map names_of (drop l.names-index l.locals)) ≡ local_words (map names_of l.locals)
