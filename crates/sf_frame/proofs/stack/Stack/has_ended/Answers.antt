use Rattle.sf_frame.proofs.Ended.{ended_else, ended_then}
use Rattle.sf_frame.proofs.stack.Stack.has_ended.Goals as goal

pub returns-then-is_empty : goal.returns-then-is_empty
returns-then-is_empty c =
    ended_then c.args.self.now.frame c.args.self.now.below.items c.as_slice.result.now
    c.as_slice-then-is_empty.result.now c.is_empty.result c.is_empty-then-is_empty.result c.is_empty.ensures
    c.as_slice.ensures.value c.is_empty-then-is_empty.ensures c.as_slice-then-is_empty.ensures.value
    c.if-is_empty.true

pub returns-else-is_empty : goal.returns-else-is_empty
returns-else-is_empty c =
    ended_else c.args.self.now.frame c.args.self.now.below.items c.as_slice.result.now c.is_empty.result
    c.is_empty.ensures c.as_slice.ensures.value c.if-is_empty.false
