use Rattle.std.proofs.Common.{◌≡◌, ◌+◌, length, ap, ◌∙◌, rules}
use Rattle.sf_base.proofs.Options.{some-holds}
use Rattle.sf_calls.specs.Changes.{changed}
use Rattle.sf_core.specs.Program.View.{assertion_of, call_of}
use Rattle.sf_sym.specs.Goal.{todo_of}
use Rattle.sf_sym.specs.State.{with_symbols}
use Rattle.sf_sym.specs.Variables.{fresh_for}
use Rattle.sf_rules.proofs.CallRows.{forked_left}
use Rattle.sf_rules.proofs.calls.call_two.Goals as goal

pub returns : goal.returns
returns c =
    let s = c.args.goal.state in
    let one = call_of c.args.left.0.now in
    let two = call_of c.args.right.0.now in
    let first = c.in-Some.set.0.items in
    let second = c.in-Some.set.1.items in
    let found = some-holds _ c.in_ok-set.field-0 c.in-Some.set c.in-Some.is c.in_ok-set.ensures.some in
    let count : c.len.result + c.len-2.result ≡ length first + length second = search rules in
    forked_left c.args.calls.now s c.args.place one two (todo_of c.args.goal.todo.items)
    (assertion_of c.args.left.1.pre.now) (assertion_of c.args.left.1.post.now)
    (assertion_of c.args.right.1.pre.now) (assertion_of c.args.right.1.post.now) first second
    (c.len.result + c.len-2.result) c.add_symbols.new.self (todo_of c.in_ok-todo.todo.items)
    (todo_of c.in_ok-todo-2.todo.items) (todo_of c.in_ok-todo-3.todo.items)
    (found.0 ∙ ap (λ n. fresh_for n (changed c.args.calls.now one)) c.next_sym.ensures)
    (found.1 ∙ ap (λ n. fresh_for (n + length first) (changed c.args.calls.now two)) c.next_sym.ensures) found.2 count
    c.in_ok-todo.ensures c.in_ok-todo-2.ensures c.in_ok-todo-3.ensures
    (c.add_symbols.ensures ∙ ap (λ n. with_symbols n s) (search rules))
