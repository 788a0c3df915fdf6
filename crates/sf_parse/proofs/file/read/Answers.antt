use Rattle.std.proofs.Common.{[], map}
use Rattle.sf_ast.specs.View.{item_of}
use Rattle.sf_parse.proofs.Grammar.Depths.{items_shallow}
use Rattle.sf_parse.proofs.file.read.Goals as goal

pub invariant_of-result : goal.invariant_of-result
invariant_of-result c = record { shallow = items_shallow (map item_of c.in-Ok.items.items) [] c.in-Ok.ensures.within }

pub returns-in-Ok-clause-found : goal.returns-in-Ok-clause-found
returns-in-Ok-clause-found c = record {
  spells = c.in-Ok.ensures.spelled;
  nearest = c.in-Ok.ensures.nearest;
  shallow = items_shallow (map item_of c.in-Ok.items.items) [] c.in-Ok.ensures.within;
}
