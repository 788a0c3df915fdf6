use Rattle.std.proofs.Common.{◌∙◌, sym, arith}
use Rattle.sf_frame.specs.declared.todo.Todo.TheVariants.{Commands}
use Rattle.sf_frame.specs.declared.frame.Way.TheVariants.{Past, Into, Else}
use Rattle.sf_frame.proofs.Todos.{fits_taken, goes_first, goes_leave}
use Rattle.sf_frame.proofs.todo.go_on.Goals as goal

pub put_block-requires : goal.put_block-requires
put_block-requires c =
    let k = fits_taken _ _ c.args.todo.now.items c.pop.new.self.items _
    (Commands c.in-Some-Commands.command c.in-Some-Commands.rest)
    c.in-Some-Commands.ensures.items c.in-Some-Commands.field-0-is c.pop.ensures.capacity c.requires
    in
    record { deep = k.0; room = omega (arith, k.1) }

pub go_into-requires : goal.go_into-requires
go_into-requires c =
    let k = fits_taken _ _ c.args.todo.now.items c.pop.new.self.items _
    (Commands c.in-Some-Commands.command c.in-Some-Commands.rest)
    c.in-Some-Commands.ensures.items c.in-Some-Commands.field-0-is c.pop.ensures.capacity c.requires
    in
    record { deep = k.0; room = omega (arith, k.1) }

pub go_else-requires : goal.go_else-requires
go_else-requires c =
    let k = fits_taken _ _ c.args.todo.now.items c.pop.new.self.items _
    (Commands c.in-Some-Commands.command c.in-Some-Commands.rest)
    c.in-Some-Commands.ensures.items c.in-Some-Commands.field-0-is c.pop.ensures.capacity c.requires
    in
    record { deep = k.0; room = omega (arith, k.1) }

pub returns-in-Past-clause-todo : goal.returns-in-Past-clause-todo
returns-in-Past-clause-todo c =
    c.put_block.ensures.todo
    ∙ sym (goes_first c.args.way Past c.args.todo.now.items c.pop.new.self.items _
    c.in-Some-Commands.command
    c.in-Some-Commands.rest c.in-Past.is c.in-Some-Commands.ensures.items
    c.in-Some-Commands.field-0-is)

pub returns-in-Into-clause-todo : goal.returns-in-Into-clause-todo
returns-in-Into-clause-todo c =
    c.go_into.ensures.todo
    ∙ sym (goes_first c.args.way Into c.args.todo.now.items c.pop.new.self.items _
    c.in-Some-Commands.command
    c.in-Some-Commands.rest c.in-Into.is c.in-Some-Commands.ensures.items
    c.in-Some-Commands.field-0-is)

pub returns-in-Else-clause-todo : goal.returns-in-Else-clause-todo
returns-in-Else-clause-todo c =
    c.go_else.ensures.todo
    ∙ sym (goes_first c.args.way Else c.args.todo.now.items c.pop.new.self.items _
    c.in-Some-Commands.command
    c.in-Some-Commands.rest c.in-Else.is c.in-Some-Commands.ensures.items
    c.in-Some-Commands.field-0-is)

pub returns-in-Some-Leave-clause-todo : goal.returns-in-Some-Leave-clause-todo
returns-in-Some-Leave-clause-todo c =
    sym (goes_leave c.args.way c.args.todo.now.items c.pop.new.self.items _ _
    c.in-Some-Leave.ensures.items
    c.in-Some-Leave.field-0-is)

pub returns-in-Some-Leave-clause-deep : goal.returns-in-Some-Leave-clause-deep
returns-in-Some-Leave-clause-deep c =
    (fits_taken _ _ c.args.todo.now.items c.pop.new.self.items _ _ c.in-Some-Leave.ensures.items
    c.in-Some-Leave.field-0-is c.pop.ensures.capacity c.requires).0
