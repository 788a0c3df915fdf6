use Rattle.sf_frame.specs.Frames.{frames_of}
use Rattle.sf_frame.proofs.NextTodo.{frames_alone}
use Rattle.sf_frame.proofs.following.next_of.Goals as goal

pub returns : goal.returns
returns c = c.frame_next.ensures (frames_of c.args.stack.now.below.items)
    (frames_alone c.is_empty.result c.args.stack.now.below.items _ c.is_empty.ensures c.as_slice.ensures.value)
