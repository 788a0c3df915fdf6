use Rattle.std.proofs.Common.{rules}
use Rattle.sf_core.specs.Program.View.{assertion_of}
use Rattle.sf_sym.specs.Goal.{todo_of}
use Rattle.sf_sym.specs.Pending.{pending_of}
use Rattle.sf_rules.proofs.Looping.{given_first}
use Rattle.sf_rules.proofs.loops.with_invariant.Goals as goal

pub returns : goal.returns
returns g c =
    given_first c.args.vars.now c.args.l.now.place g.d (assertion_of c.args.l.now.invariant.now) _
    (todo_of c.in_ok-todo-2.todo.items) (pending_of c.in_ok-given.given) (todo_of c.in_ok-todo.todo.items)
    (search rules) (search rules) (search rules)
