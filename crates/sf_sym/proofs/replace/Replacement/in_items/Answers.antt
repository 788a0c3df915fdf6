use Rattle.std.proofs.Common.{map, arith}
use Rattle.sf_sym.specs.Equalities.{item_with, put_for}
use Rattle.sf_sym.specs.Goal.{items_of}
use Rattle.sf_sym.proofs.InPlace.{viewed_next}
use Rattle.sf_sym.proofs.replace.Replacement.in_items.Goals as goal

pub loop-i-preserved : goal.loop-i-preserved
loop-i-preserved c =
    viewed_next items_of (map (item_with (put_for c.args.self.symbol c.args.self.by))) c.args.todo.now
    c.loop-i.todo c.loop-i.i c.index-todo-i.result c.in_item.new.item (omega arith) (omega arith)
    c.loop-i.invariant c.in_item.ensures
