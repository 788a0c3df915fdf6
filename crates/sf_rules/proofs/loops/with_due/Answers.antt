use Rattle.std.proofs.Common.{rules}
use Rattle.sf_core.specs.Program.View.{assertion_of}
use Rattle.sf_sym.specs.Goal.{todo_of}
use Rattle.sf_sym.specs.Pending.{pending_of}
use Rattle.sf_rules.proofs.Looping.{due_first}
use Rattle.sf_rules.proofs.loops.with_due.Goals as goal

pub returns : goal.returns
returns g c =
    due_first c.args.vars.now c.args.place g.d (assertion_of c.args.invariant.now) (todo_of c.args.todo.items)
    (todo_of c.in_ok-todo.todo.items) (pending_of c.in_ok-want.want) (search rules) (search rules) (search rules)
