use Rattle.std.proofs.Common.{◌≡◌, drop, map, ◌++◌}
use Rattle.sf_ast.specs.View.{conjunct_of, assertion_of}
use Rattle.sf_elab.specs.Annotations.Flat.{flat_all, flat_of}
use Rattle.sf_elab.proofs.Annotations.Flats.{flat_rest}
use Rattle.sf_elab.proofs.flat.+flat.Given as goal

-- those so far and those of what is left are all
abbrev pub invariant-add_all-loop-c : goal.invariant-add_all-loop-c
invariant-add_all-loop-c l = map flat_of l.done.items ++ flat_rest (map conjunct_of (drop l.c-index l.assertion.more.items)) ≡ map flat_of l.fn.done.items ++ flat_all (assertion_of l.fn.assertion)
