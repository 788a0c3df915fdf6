use Rattle.sf_frame.specs.Commons.{common_of}
use Rattle.sf_frame.specs.Frames.{fixed_of}
use Rattle.sf_frame.proofs.Acts.{act_look_up}
use Rattle.sf_frame.proofs.act.look_up.Goals as goal

pub returns-in-Some-clause-acts : goal.returns-in-Some-clause-acts
returns-in-Some-clause-acts c = act_look_up (common_of c.args.shared.now) (fixed_of c.args.frame.now) c.args.x c.args.e
    c.args.field c.spot.result c.evaluate-root.result c.get.result c.in-Some.cell.now c.requires
    c.spot.ensures c.evaluate-root.ensures c.in-Some.ensures c.get.ensures
