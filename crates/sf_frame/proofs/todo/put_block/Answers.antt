use Rattle.std.proofs.Common.{ap, sym, arith}
use Rattle.sf_frame.specs.declared.todo.Todo.TheVariants.{Commands}
use Rattle.sf_frame.specs.Frames.{block_items}
use Rattle.sf_frame.proofs.Todos.{fits_put, room_block, todo_put}
use Rattle.sf_frame.proofs.todo.put_block.Goals as goal

pub push_reserved-requires : goal.push_reserved-requires
push_reserved-requires c =
    (room_block _ _ c.args.block.now c.in-Some.rest.now c.in-Some.first.now
    c.in-Some.ensures.cases.0 c.requires.room).0

pub returns-in-Some-clause-todo : goal.returns-in-Some-clause-todo
returns-in-Some-clause-todo c =
    todo_put c.args.todo.now.items c.push_reserved.new.self.items
    (Commands c.in-Some.first c.in-Some.rest)
    c.args.block.now c.push_reserved.ensures.items (ap block_items (sym c.in-Some.ensures.cases.0))

pub returns-in-Some-clause-deep : goal.returns-in-Some-clause-deep
returns-in-Some-clause-deep c =
    fits_put _ _ c.args.todo.now.items c.push_reserved.new.self.items
    (Commands c.in-Some.first c.in-Some.rest)
    c.push_reserved.ensures.items c.push_reserved.ensures.capacity c.requires.deep
    (omega (
      arith,
      (room_block _ _ c.args.block.now c.in-Some.rest.now c.in-Some.first.now
          c.in-Some.ensures.cases.0
          c.requires.room).1,
    ))
