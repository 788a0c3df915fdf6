use Rattle.sf_frame.specs.Commons.{common_of}
use Rattle.sf_frame.specs.Frames.{fixed_of}
use Rattle.sf_frame.proofs.Acts.{act_assign}
use Rattle.sf_frame.proofs.act.assign.Goals as goal

pub returns-clause-acts : goal.returns-clause-acts
returns-clause-acts c = act_assign (common_of c.args.shared.now) (fixed_of c.args.frame.now) c.args.x c.args.e c.spot.result
    c.evaluate-value.result c.requires c.spot.ensures c.evaluate-value.ensures
