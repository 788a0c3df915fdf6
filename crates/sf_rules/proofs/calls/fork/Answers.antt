use Rattle.std.proofs.Common.{◌≡◌, ap, ◌∙◌, ◌∷◌, rules}
use Rattle.std.proofs.lemmas.Result.{IfOk-weaker}
use Rattle.std.specs.Option.{option_map}
use Rattle.sf_base.proofs.Options.{some-holds}
use Rattle.sf_core.specs.Program.Syntax.{Command}
use Rattle.sf_core.specs.Program.View.{assertion_of, call_of, command_of}
use Rattle.sf_sym.specs.Goal.{run, todo_of}
use Rattle.sf_rules.specs.Checked.Children.{children_of}
use Rattle.sf_rules.specs.Setting.{Setting}
use Rattle.sf_rules.proofs.CallRows.{fork_at, fork_view}
use Rattle.sf_rules.proofs.calls.fork.Goals as goal

pub returns : goal.returns
returns g c =
    let rest = todo_of c.take_command.new.todo.items in
    let front : todo_of c.args.goal.todo.items ≡ run (command_of c.in-Some.c.now) ∷ rest = search rules in
    let first = front ∙ ap (λ (x : Command). run x ∷ rest)
    (ap command_of c.in-Fork.is ∙ fork_view c.in-Fork.place c.in-Fork.left c.in-Fork.right) in
    let one = some-holds _ c.contract_of.result c.in-Some-contract_of.one c.in-Some-contract_of.is
    c.contract_of.ensures.some in
    let two = some-holds _ c.contract_of-2.result c.in-Some-contract_of-2.two c.in-Some-contract_of-2.is
    c.contract_of-2.ensures.some in
    IfOk-weaker c.call_two.result _ _
    (λ left e. fork_at g.d c.args.goal.state c.in-Fork.place rest (todo_of c.args.goal.todo.items)
    (call_of c.in-Fork.left) (call_of c.in-Fork.right) first (option_map children_of left)
    (assertion_of c.in-Some-contract_of.one.pre.now) (assertion_of c.in-Some-contract_of.one.post.now)
    (assertion_of c.in-Some-contract_of-2.two.pre.now) (assertion_of c.in-Some-contract_of-2.two.post.now)
    one.0 two.0 c.args.arranged.now.calls one.1 one.2 one.3 two.1 two.2 two.3 (ap (λ (z : Setting). z.sets) c.requires.1.0) e) c.call_two.ensures
