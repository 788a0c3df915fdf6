use Rattle.std.proofs.Common.{rules}
use Rattle.sf_base.proofs.Options.{some-holds}
use Rattle.sf_core.specs.Program.View.{assertion_of, block_of}
use Rattle.sf_sym.specs.Goal.{goal_of, todo_of}
use Rattle.sf_rules.proofs.Looping.{around_left}
use Rattle.sf_rules.proofs.loops.around.Goals as goal

pub returns : goal.returns
returns g c =
    let found = some-holds _ c.in_ok-state.field-0 c.in-Some-2.state c.in-Some-2.is
    c.in_ok-state.ensures.some in
    around_left g.d c.args.goal.state c.in-Some-2.state c.in-Some.l.place c.in-Some.l.test.now
    (assertion_of c.in-Some.l.invariant.now) (block_of c.in-Some.l.body.now) (todo_of c.take_head.new.todo.items)
    (todo_of c.args.goal.todo.items) (goal_of c.in_ok-once.once) (goal_of c.in_ok-after.after) (search rules)
    found.0 found.1 c.in_ok-once.ensures c.in_ok-after.ensures
