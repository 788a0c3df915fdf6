use Rattle.sf_frame.proofs.Stacks.{after_same, called_frames}
use Rattle.sf_frame.proofs.stack.called.Goals as goal

pub returns : goal.returns
returns c = called_frames c.args.callee c.args.frame c.go_on.new.self c.args.below.items
    c.push_reserved.new.self.items
    c.push_reserved.ensures.items (after_same c.args.frame c.go_on.new.self c.go_on.ensures)
