use Rattle.std.proofs.Common.{rules}
use Rattle.sf_rules.specs.Checked.Terms.{terms_of}
use Rattle.sf_rules.proofs.Items.{each_next}
use Rattle.sf_sym.specs.Goal.{todo_of}
use Rattle.sf_rules.proofs.words.with_each_wanted.Goals as goal

pub loop-last-preserved : goal.loop-last-preserved
loop-last-preserved c =
    each_next c.args.place (terms_of c.args.terms) c.args.owed.now c.loop-last.left.now c.in-Some.rest.now
    c.in-Some.last.now (todo_of c.args.todo.items) (todo_of c.loop-last.todo.items) (todo_of c.in_ok-todo.todo.items)
    c.loop-last.invariant (search rules) c.in_ok-todo.ensures
