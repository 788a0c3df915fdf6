use Rattle.std.proofs.Common.{◌≡◌, List, ◌∷◌, ◌++◌, map, ap, ◌∙◌, rules}
use Rattle.std.proofs.lemmas.Result.{IfOk-weaker}
use Rattle.std.specs.Option.{option_map}
use Rattle.sf_base.proofs.Options.{some-holds}
use Rattle.sf_core.specs.declared.command.Command.{Command as CodeCommand}
use Rattle.sf_core.specs.Program.Syntax.{Command}
use Rattle.sf_core.specs.Program.View.{assertion_of, block, command_of}
use Rattle.sf_sym.specs.Goal.{exit, run, to_run, todo_of}
use Rattle.sf_rules.specs.Checked.Children.{children_of}
use Rattle.sf_rules.proofs.RegionRows.{enter_at, region_view}
use Rattle.sf_rules.proofs.regions.enter.Goals as goal

pub returns : goal.returns
returns g c =
    let rest = todo_of c.take_command.new.todo.items in
    let front : todo_of c.args.goal.todo.items ≡ run (command_of c.in-Some.c.now) ∷ rest = search rules in
    let first = front ∙ ap (λ (x : Command). run x ∷ rest)
    (ap command_of c.in-With.is ∙ region_view c.in-With.place c.in-With.r c.in-With.test c.in-With.body) in
    let found = some-holds _ c.region_of.result c.in-Some-region_of.region c.in-Some-region_of.is
    c.region_of.ensures.some in
    let inside = c.in_ok-todo.ensures
    ∙ ap (λ (cs : List CodeCommand). to_run (block (map command_of cs)) ++ (exit c.in-With.place c.in-With.r ∷ rest))
    c.deref.ensures.value in
    IfOk-weaker c.enter_region.result _ _
    (λ left e. enter_at g.d c.args.goal.state c.in-With.place c.in-With.r rest (todo_of c.args.goal.todo.items)
    c.in-With.test (block (map command_of c.in-With.body.items)) first (option_map children_of left) found.0
    c.in-Some-region_of.region.names.now (assertion_of c.in-Some-region_of.region.invariant.now)
    (todo_of c.in_ok-todo.todo.items) found.1 found.2 found.3 inside e) c.enter_region.ensures
