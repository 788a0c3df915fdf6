use Rattle.std.proofs.Common.{◌≡◌, List, ◌∷◌, rules, ap, ◌∙◌}
use Rattle.sf_core.specs.declared.command.Command.{Command as CodeCommand}
use Rattle.sf_core.specs.Program.Syntax.{Command}
use Rattle.sf_core.specs.Program.View.{assertion_of, block_of, command_of}
use Rattle.sf_sym.specs.Goal.{head, run, todo_of}
use Rattle.sf_rules.proofs.Looping.{loop_left, loop_view, pushed}
use Rattle.sf_rules.proofs.loops.begin_loop.Goals as goal

pub returns : goal.returns
returns g c =
    let rest = todo_of c.take_command.new.todo.items in
    let front : todo_of c.args.goal.todo.items ≡ run (command_of c.in-Some.c.now) ∷ rest = search rules in
    loop_left c.args.goal.state c.vars.result.now (search rules) c.in-While.place g.d
    (assertion_of c.in-While.invariant) c.in-While.test (block_of c.in-While.body.items) rest
    (todo_of c.args.goal.todo.items) (todo_of c.push.new.self.items) (todo_of c.in_ok-todo.todo.items)
    (front ∙ ap (λ (x : Command). run x ∷ rest)
    (ap command_of c.in-While.is ∙ loop_view c.in-While.place c.in-While.test c.in-While.invariant c.in-While.body))
    (pushed _ _ _ c.in_ok-push.ensures.items
    ∙ ap (λ (cs : List CodeCommand). head c.in-While.place c.in-While.test (assertion_of c.in-While.invariant)
    (block_of cs) ∷ rest) c.deref.ensures.value) (search rules)
