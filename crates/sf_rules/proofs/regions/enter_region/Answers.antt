use Rattle.std.proofs.Common.{◌≡◌, ◌≤◌, ◌^◌, ◌+◌, List, length, ap, ◌∙◌, arith}
use Rattle.std.proofs.lemmas.Bool.Decides.{nat_tests}
use Rattle.sf_base.specs.declared.ids.Var.{Var}
use Rattle.sf_core.specs.Program.View.{assertion_of}
use Rattle.sf_sym.specs.Goal.{todo_of}
use Rattle.sf_sym.specs.Variables.{with_fresh}
use Rattle.sf_rules.specs.declared.few.TheConstants.{TOO_MANY}
use Rattle.sf_rules.specs.Resources.{variables_from}
use Rattle.sf_rules.proofs.RegionRows.{entered_left, entered_many, length_variables}
use Rattle.sf_rules.proofs.regions.enter_region.Goals as goal

pub returns-then-region-ge-TOO_MANY : goal.returns-then-region-ge-TOO_MANY
returns-then-region-ge-TOO_MANY c =
    let many = c.if-region-ge-TOO_MANY.true in
    let count = length_variables c.args.r 0 c.args.region.names.now in
    entered_many c.args.goal.state c.args.place (variables_from c.args.r 0 c.args.region.names.now)
    (assertion_of c.args.region.invariant.now) c.args.test.now (todo_of c.args.goal.todo.items)
    (grind (arith, nat_tests))

pub set_fresh-requires : goal.set_fresh-requires
set_fresh-requires c =
    let few = c.if-region-ge-TOO_MANY.false in
    let count = length_variables c.args.r 0 c.args.region.names.now in
    let all : length c.deref.result.now ≡ length (variables_from c.args.r 0 c.args.region.names.now) =
    ap length (c.deref.ensures.value ∙ c.in_ok-variables_of.ensures) in
    let numbers = c.requires.numbers in
    let below : c.args.goal.state.next_sym + TOO_MANY ≤ 2 ^ 32 = grind (arith, nat_tests) in
    omega (arith, few, count, all, below)

pub returns : goal.returns
returns c =
    let few = c.if-region-ge-TOO_MANY.false in
    let count = length_variables c.args.r 0 c.args.region.names.now in
    let xs = variables_from c.args.r 0 c.args.region.names.now in
    entered_left c.args.goal.state c.args.place xs (assertion_of c.args.region.invariant.now) c.args.test.now
    (todo_of c.args.goal.todo.items) c.set_fresh.new.self c.vars.result.now (todo_of c.in_ok-todo.todo.items)
    (todo_of c.in_ok-todo-2.todo.items) (omega (arith, few, count))
    (c.in_ok-set_fresh.ensures.ok
    ∙ ap (λ (ys : List Var). with_fresh ys c.args.goal.state) (c.deref.ensures.value ∙ c.in_ok-variables_of.ensures))
    c.vars.ensures c.in_ok-todo.ensures c.in_ok-todo-2.ensures
