use Rattle.std.proofs.Common.{refl, inl, inr, ap}
use Rattle.sf_frame.specs.Frames.{items_of}
use Rattle.sf_frame.proofs.NextTodo.{frame_does, frame_done, not_alone}
use Rattle.sf_frame.proofs.following.frame_next.Goals as goal
use Rattle.sf_frame.proofs.following.frame_next.Goals.{else-is_entry-via-then-is_entry+else-is_alone, else-is_entry-via-else-is_entry}

pub returns-else-is_entry : goal.returns-else-is_entry
returns-else-is_entry c = λ below alone. (
  _,
  below,
  frame_done c.args.frame.now _ below c.as_slice.ensures.value c.in_default.ensures.cases,
  refl,
  not_alone c.args.is_alone c.args.is_entry _ alone (elim c.else-is_entry.branch [
    | else-is_entry-via-then-is_entry+else-is_alone w ↦ inr w.if-is_alone.false
    | else-is_entry-via-else-is_entry w ↦ inl w.if-is_entry.false
  ]),
  refl,
)

pub returns-in-Commands : goal.returns-in-Commands
returns-in-Commands c = λ below alone. (
  below,
  _,
  frame_does c.args.frame.now _ _ _ _ _ below c.as_slice.ensures.value c.in-Some.ensures.cases.0
      (ap items_of c.in-Commands.is),
)

pub returns-in-Leave : goal.returns-in-Leave
returns-in-Leave c = λ below alone. (
  _,
  below,
  _,
  frame_does c.args.frame.now _ _ _ _ _ below c.as_slice.ensures.value c.in-Some.ensures.cases.0
      (ap items_of c.in-Leave.is),
)
