use Rattle.std.proofs.Common.{◌∙◌, ap}
use Rattle.sf_core.specs.Program.View.{command_of}
use Rattle.sf_frame.proofs.Todos.{items_again, items_before, items_leave}
use Rattle.sf_frame.proofs.Views.{view_if, view_while, view_with}
use Rattle.sf_frame.proofs.todo.go_into.Goals as goal

pub returns-in-If-clause-todo : goal.returns-in-If-clause-todo
returns-in-If-clause-todo c =
    rw (ap command_of c.in-If.is ∙ view_if c.in-If.field-0 c.in-If.field-1 c.in-If.this
    c.in-If.field-3)
    (items_before _ _ _ _ c.in-If.this.items c.put_block-in-If.ensures.todo c.deref.ensures.value
    c.put_block.ensures.todo)

pub returns-in-While-clause-todo : goal.returns-in-While-clause-todo
returns-in-While-clause-todo c =
    let is = ap command_of c.in-While.is
    ∙ view_while c.in-While.field-0 c.in-While.field-1 c.in-While.field-2 c.in-While.body in
    rw is
    (items_before _ _ _ _ c.in-While.body.items c.put_block-in-While.ensures.todo
    c.deref-in-While.ensures.value
    (items_again c.args.todo.now.items c.push_reserved.new.self.items c.args.command c.args.rest _
    c.push_reserved.ensures.items is))

pub returns-in-With-clause-todo : goal.returns-in-With-clause-todo
returns-in-With-clause-todo c =
    rw (ap command_of c.in-With.is ∙ view_with c.in-With.field-0 c.in-With.r c.in-With.field-2
    c.in-With.body)
    (items_before _ _ _ _ c.in-With.body.items c.put_block-in-With-2.ensures.todo
    c.deref-in-With.ensures.value
    (items_leave c.put_block-in-With.new.todo.items c.push_reserved-in-With.new.self.items
    c.in-With.r _
    c.push_reserved-in-With.ensures.items c.put_block-in-With.ensures.todo))
