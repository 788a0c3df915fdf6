use Rattle.std.proofs.Common.{rules}
use Rattle.sf_core.specs.Program.View.{assertion_of}
use Rattle.sf_sym.specs.Goal.{todo_of}
use Rattle.sf_rules.proofs.Looping.{after_left}
use Rattle.sf_rules.proofs.loops.after_loop.Goals as goal

pub returns : goal.returns
returns g c =
    after_left c.args.state c.vars.result.now (search rules) c.args.l.now.place g.d
    (assertion_of c.args.l.now.invariant.now) c.args.l.now.test.now c.negation.result c.clear_taken.new.self
    (todo_of c.in_ok-todo.todo.items) (todo_of c.args.todo.items) (search rules) (search rules) (search rules)
