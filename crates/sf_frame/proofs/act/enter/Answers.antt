use Rattle.std.proofs.Common.{◌∙◌, sym}
use Rattle.sf_base.proofs.Options.{is_some-false}
use Rattle.sf_frame.specs.Commons.{common_of, held_of}
use Rattle.sf_frame.specs.Frames.{fixed_of}
use Rattle.sf_frame.proofs.Acts.{act_with}
use Rattle.sf_frame.proofs.act.enter.Goals as goal

pub returns : goal.returns
returns c = λ body.
    act_with (common_of c.args.shared.now) (fixed_of c.args.frame.now) c.args.r c.args.test.now body
    (is_some-false (held_of c.args.shared.now.held c.args.r)
    (sym c.contains_key.ensures ∙ c.if-contains_key.false))
    (c.is_true.ensures.0 c.if-not-is_true.false)
