use Rattle.std.proofs.Common.{◌∙◌, ap, refl}
use Rattle.sf_frame.specs.Frames.{block_items}
use Rattle.sf_frame.proofs.Entries.{entry_is}
use Rattle.sf_frame.proofs.entry.entry_frame.Goals as goal

pub returns : goal.returns
returns c = entry_is c.args.f c.args.procedure.now (record {
  procedure = c.args.f;
  references = c.in_ok-references.references;
  room = record { event = 0; first = c.args.procedure.now.references; count = c.room_count.result };
  todo = c.in_ok-todo.todo;
  deep = c.in_ok-todo.ensures.deep;
}) refl c.in_ok-references.ensures refl refl c.room_count.ensures
    (c.in_ok-todo.ensures.todo ∙ ap block_items c.deref.ensures.value)
