use Rattle.std.proofs.Common.{rules}
use Rattle.sf_core.specs.Program.View.{assertion_of}
use Rattle.sf_sym.specs.Goal.{todo_of}
use Rattle.sf_rules.proofs.Looping.{again_left}
use Rattle.sf_rules.proofs.loops.again.Goals as goal

pub returns : goal.returns
returns g c =
    again_left c.args.goal.state c.vars.result.now (search rules) c.in-Some.place g.d
    (assertion_of c.in-Some.invariant.now) (todo_of c.take_again.new.todo.items) (todo_of c.args.goal.todo.items)
    (todo_of c.in_ok-todo.todo.items) (todo_of c.in_ok-todo-2.todo.items) (search rules) (search rules)
    (search rules)
