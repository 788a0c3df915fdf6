use Rattle.std.proofs.Common.{◌≡◌, map, true, ◌++◌, drop}
use Rattle.sf_ast.specs.declared.word.SurfaceExpr.TheVariants as e
use Rattle.sf_parse.specs.Checked.Given.{all_names}
use Rattle.sf_parse.proofs.call.names_of.Given as goal

abbrev pub invariant-loop-value : goal.invariant-loop-value
invariant-loop-value l = record {
  front : map e.Name l.names.items ++ drop l.value-index l.values ≡ l.values;
  all : all_names true (drop l.value-index l.values) ≡ all_names true l.values;
}
