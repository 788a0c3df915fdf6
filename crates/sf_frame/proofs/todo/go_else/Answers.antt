use Rattle.std.proofs.Common.{◌∙◌, ap}
use Rattle.sf_core.specs.Program.View.{command_of}
use Rattle.sf_frame.proofs.Todos.{items_before}
use Rattle.sf_frame.proofs.Views.{view_if}
use Rattle.sf_frame.proofs.todo.go_else.Goals as goal

pub returns-in-If-clause-todo : goal.returns-in-If-clause-todo
returns-in-If-clause-todo c =
    rw (ap command_of c.in-If.is ∙ view_if c.in-If.field-0 c.in-If.field-1 c.in-If.field-2
    c.in-If.that)
    (items_before _ _ _ _ c.in-If.that.items c.put_block-in-If.ensures.todo c.deref.ensures.value
    c.put_block.ensures.todo)
