use Rattle.std.proofs.Common.{◌∙◌, ap, refl}
use Rattle.sf_frame.specs.Frames.{block_items}
use Rattle.sf_frame.proofs.Entries.{init_is}
use Rattle.sf_frame.proofs.entry.init_frame.Goals as goal

pub returns : goal.returns
returns c = init_is c.args.n c.args.procedure.now c.args.first (record {
  procedure = c.args.n;
  references = c.new.result;
  room = record { event = 0; first = c.args.first; count = c.room_count.result };
  todo = c.in_ok-todo.todo;
  deep = c.in_ok-todo.ensures.deep;
}) refl c.new.ensures.items refl refl c.room_count.ensures
    (c.in_ok-todo.ensures.todo ∙ ap block_items c.deref.ensures.value)
