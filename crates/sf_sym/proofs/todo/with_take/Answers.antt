use Rattle.std.proofs.Common.{rules, ap, ◌∙◌}
use Rattle.sf_sym.specs.Goal.{take, todo_of}
use Rattle.sf_sym.specs.Pending.{pending_of}
use Rattle.sf_sym.specs.Checked.Lemmas.{todo_of_push}
use Rattle.sf_sym.proofs.Items.{unless_empty_before, unless_some_before}
use Rattle.sf_sym.proofs.todo.with_take.Goals as goal

pub returns-then-is_empty : goal.returns-then-is_empty
returns-then-is_empty c =
    unless_empty_before c.args.want.conjuncts
    (take c.args.place (pending_of c.args.want) c.args.names.now) (todo_of c.args.todo.items)
    (search rules)

pub returns : goal.returns
returns c =
    unless_some_before c.args.want.conjuncts
    (take c.args.place (pending_of c.args.want) c.args.names.now) (todo_of c.args.todo.items)
    (todo_of c.push.new.self.items) (search rules)
    (ap todo_of c.in_ok-push.ensures.items ∙ todo_of_push c.args.todo.items _)
