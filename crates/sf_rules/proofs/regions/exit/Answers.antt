use Rattle.std.proofs.Common.{rules}
use Rattle.sf_base.proofs.Options.{some-holds}
use Rattle.sf_core.specs.Program.View.{assertion_of}
use Rattle.sf_sym.specs.Goal.{todo_of}
use Rattle.sf_rules.proofs.RegionRows.{exit_at}
use Rattle.sf_rules.proofs.regions.exit.Goals as goal

pub returns : goal.returns
returns g c =
    let found = some-holds _ c.region_of.result c.in-Some-region_of.region c.in-Some-region_of.is
    c.region_of.ensures.some in
    exit_at g.d c.args.goal.state c.in-Some.place c.in-Some.r (todo_of c.take_exit.new.todo.items)
    (todo_of c.args.goal.todo.items) (search rules) found.0 c.in-Some-region_of.region.names.now
    (assertion_of c.in-Some-region_of.region.invariant.now) c.vars.result.now (todo_of c.in_ok-todo.todo.items)
    (todo_of c.in_ok-todo-2.todo.items) found.1 found.2 found.3 c.vars.ensures c.in_ok-todo.ensures
    c.in_ok-todo-2.ensures
