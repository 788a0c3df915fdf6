use Rattle.sf_frame.specs.Commons.{common_of}
use Rattle.sf_frame.specs.Frames.{fixed_of}
use Rattle.sf_frame.proofs.Acts.{act_mutate}
use Rattle.sf_frame.proofs.act.mutate.Goals as goal

pub returns-in-Some-clause-acts : goal.returns-in-Some-clause-acts
returns-in-Some-clause-acts c = act_mutate (common_of c.args.shared.now) (fixed_of c.args.frame.now) c.args.e c.args.field
    c.args.v c.evaluate-root.result c.evaluate-value.result c.in-Some.at c.evaluate-root.ensures
    c.in-Some.ensures c.evaluate-value.ensures
