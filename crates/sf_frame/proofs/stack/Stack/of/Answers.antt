use Rattle.sf_frame.proofs.Stacks.{frames_one}
use Rattle.sf_frame.proofs.stack.Stack.of.Goals as goal

pub returns : goal.returns
returns c = frames_one c.args.frame c.new.result.items c.new.ensures.items
