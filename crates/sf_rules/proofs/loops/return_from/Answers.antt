use Rattle.std.proofs.Common.{map, rules}
use Rattle.sf_core.specs.Program.View.{assertion_of}
use Rattle.sf_sym.specs.Goal.{todo_of}
use Rattle.sf_rules.proofs.Looping.{return_left}
use Rattle.sf_rules.proofs.loops.return_from.Goals as goal

pub returns : goal.returns
returns c =
    return_left c.args.goal.state c.vars.result.now (search rules) c.in-Some.place
    (map (λ o. assertion_of o.assertion) c.in-Some.owed.now) (todo_of c.take_return.new.todo.items) (todo_of c.args.goal.todo.items)
    (todo_of c.in_ok-todo.todo.items) (todo_of c.in_ok-todo-2.todo.items) (search rules) (search rules)
    (search rules)
