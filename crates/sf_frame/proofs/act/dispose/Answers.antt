use Rattle.sf_frame.specs.Commons.{common_of}
use Rattle.sf_frame.specs.Frames.{fixed_of}
use Rattle.sf_frame.proofs.Acts.{act_dispose}
use Rattle.sf_frame.proofs.act.dispose.Goals as goal

pub returns-in-Some-clause-acts : goal.returns-in-Some-clause-acts
returns-in-Some-clause-acts c = act_dispose (common_of c.args.shared.now) (fixed_of c.args.frame.now) c.args.e
    c.evaluate-root.result c.in-Some.at c.evaluate-root.ensures c.in-Some.ensures
