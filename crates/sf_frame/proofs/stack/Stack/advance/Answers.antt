use Rattle.std.proofs.Common.{◌∷◌, ap}
use Rattle.sf_core.specs.Machine.Config.{Frame}
use Rattle.sf_frame.specs.Frames.{frames_of}
use Rattle.sf_frame.proofs.stack.Stack.advance.Goals as goal

pub returns : goal.returns
returns c = ap (λ (z : Frame). z ∷ frames_of c.args.self.now.below.items) c.go_on.ensures
