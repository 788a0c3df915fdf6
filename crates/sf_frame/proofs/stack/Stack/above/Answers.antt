use Rattle.sf_frame.proofs.Stacks.{frames_two}
use Rattle.sf_frame.proofs.stack.Stack.above.Goals as goal

pub returns : goal.returns
returns c = frames_two c.args.frame c.args.outer c.new-below.result.items c.push.new.self.items
    c.new-below.ensures.items c.in_ok-push.ensures.items
