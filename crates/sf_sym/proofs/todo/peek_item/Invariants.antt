use Rattle.std.proofs.Common.{◌≡◌, ◌≤◌, length, take}
use Rattle.sf_sym.specs.Goal.{todo_of}
use Rattle.sf_sym.proofs.todo.peek_item.Given as goal

abbrev pub invariant-loop-end : goal.invariant-loop-end
invariant-loop-end l = record {
  same : todo_of l.todo ≡ todo_of (take l.end l.todo);
  within : l.end ≤ length l.todo;
}

abbrev pub decreases-loop-end : goal.decreases-loop-end
decreases-loop-end l = l.end
