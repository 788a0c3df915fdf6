use Rattle.std.proofs.Common.{◌≡◌, ap, ◌∙◌, ◌∷◌, rules}
use Rattle.std.proofs.lemmas.Result.{IfOk-weaker}
use Rattle.sf_base.proofs.Options.{some-holds}
use Rattle.sf_core.specs.Program.Syntax.{Command}
use Rattle.sf_core.specs.Program.View.{assertion_of, call_of, command_of}
use Rattle.sf_sym.specs.Goal.{run, todo_of}
use Rattle.sf_rules.specs.Checked.Children.{children_of}
use Rattle.std.specs.Option.{option_map}
use Rattle.sf_rules.specs.Setting.{Setting}
use Rattle.sf_rules.proofs.CallRows.{call_at, call_view}
use Rattle.sf_rules.proofs.calls.call.Goals as goal

pub returns : goal.returns
returns g c =
    let rest = todo_of c.take_command.new.todo.items in
    let front : todo_of c.args.goal.todo.items ≡ run (command_of c.in-Some.c.now) ∷ rest = search rules in
    let first = front ∙ ap (λ (x : Command). run x ∷ rest)
    (ap command_of c.in-Call.is ∙ call_view c.in-Call.place c.in-Call.call) in
    let found = some-holds _ c.contract_of.result c.in-Some-contract_of.contract c.in-Some-contract_of.is
    c.contract_of.ensures.some in
    IfOk-weaker c.call_one.result _ _
    (λ left e. call_at g.d c.args.goal.state c.in-Call.place rest (todo_of c.args.goal.todo.items)
    (call_of c.in-Call.call) (option_map children_of left) (assertion_of c.in-Some-contract_of.contract.pre.now)
    (assertion_of c.in-Some-contract_of.contract.post.now) found.0 c.args.arranged.now.calls first found.1 found.2
    found.3 (ap (λ (z : Setting). z.sets) c.requires.1.0) e) c.call_one.ensures
