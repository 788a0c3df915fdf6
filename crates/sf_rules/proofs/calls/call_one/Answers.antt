use Rattle.std.proofs.Common.{◌≡◌, ◌<◌, length, ap, ◌∙◌, rules}
use Rattle.sf_base.proofs.Options.{some-holds}
use Rattle.sf_calls.specs.Changes.{changed}
use Rattle.sf_core.specs.Program.View.{assertion_of, call_of}
use Rattle.sf_sym.specs.Goal.{todo_of}
use Rattle.sf_sym.specs.State.{with_symbols}
use Rattle.sf_sym.specs.Variables.{fresh_for}
use Rattle.sf_rules.specs.declared.few.TheConstants.{TOO_MANY}
use Rattle.sf_rules.proofs.CallRows.{called_left}
use Rattle.sf_rules.proofs.calls.call_one.Goals as goal

pub returns : goal.returns
returns c =
    let s = c.args.goal.state in
    let call = call_of c.args.call.now in
    let set = c.in-Some.set.items in
    let found = some-holds _ c.in_ok-set.field-0 c.in-Some.set c.in-Some.is c.in_ok-set.ensures.some in
    let few : length set < TOO_MANY = found.1 in
    let count : c.len-count.result ≡ length set = search rules in
    called_left c.args.calls.now s c.args.place call (todo_of c.args.goal.todo.items) set
    (assertion_of c.args.contract.pre.now) (assertion_of c.args.contract.post.now) c.add_symbols.new.self
    (todo_of c.in_ok-todo.todo.items) (todo_of c.in_ok-todo-2.todo.items)
    (found.0 ∙ ap (λ n. fresh_for n (changed c.args.calls.now call)) c.next_sym.ensures) few c.in_ok-todo.ensures
    c.in_ok-todo-2.ensures (c.add_symbols.ensures ∙ ap (λ n. with_symbols n s) count)
