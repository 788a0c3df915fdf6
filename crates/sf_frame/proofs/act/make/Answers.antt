use Rattle.std.proofs.Common.{◌∙◌, sym}
use Rattle.sf_frame.specs.Commons.{common_of}
use Rattle.sf_frame.specs.Stamps.{event_of}
use Rattle.sf_frame.specs.Frames.{fixed_of}
use Rattle.sf_frame.proofs.Acts.{none_found, act_new}
use Rattle.sf_frame.proofs.act.make.Goals as goal

pub returns : goal.returns
returns c = λ cell. act_new (event_of c.args.event.now cell) (common_of c.args.shared.now)
    (fixed_of c.args.frame.now) c.args.x
    c.spot.result c.requires c.spot.ensures c.if-event-eq0.false
    (none_found c.args.shared.now.heap c.args.event.now.at c.get.result c.get.ensures
    (sym c.is_some.ensures ∙ c.if-is_some.false))
