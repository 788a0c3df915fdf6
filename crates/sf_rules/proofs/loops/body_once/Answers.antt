use Rattle.std.proofs.Common.{rules}
use Rattle.sf_core.specs.Program.View.{assertion_of, block_of}
use Rattle.sf_sym.specs.Goal.{todo_of}
use Rattle.sf_rules.proofs.Looping.{body_left}
use Rattle.sf_rules.proofs.loops.body_once.Goals as goal

pub returns : goal.returns
returns g c =
    body_left c.args.state.now c.vars.result.now (search rules) c.args.l.now.place g.d
    (assertion_of c.args.l.now.invariant.now) c.args.l.now.test.now (block_of c.args.l.now.body.now)
    c.clear_heap.new.self (todo_of c.in_ok-todo-2.todo.items) (todo_of c.in_ok-todo.todo.items)
    (search rules) (search rules) (search rules)
