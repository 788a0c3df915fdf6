use Rattle.std.proofs.Common.{◌≡◌, length}
use Rattle.sf_sym.specs.Goal.{todo_of}
use Rattle.sf_sym.proofs.todo.next_item.Given as goal

abbrev pub invariant-loop-item : goal.invariant-loop-item
invariant-loop-item l = todo_of l.fn.todo.items ≡ todo_of l.todo.items

abbrev pub decreases-loop-item : goal.decreases-loop-item
decreases-loop-item l = length l.todo.items
