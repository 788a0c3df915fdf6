use Rattle.std.proofs.Common.{◌∙◌, sym, true≢false}
use Rattle.sf_frame.specs.Commons.{common_of}
use Rattle.sf_frame.specs.Frames.{fixed_of}
use Rattle.sf_frame.proofs.Acts.{act_leave, act_while}
use Rattle.sf_frame.proofs.act.repeat.Goals as goal

pub returns-then-is_true-clause-acts : goal.returns-then-is_true-clause-acts
returns-then-is_true-clause-acts c = λ body.
    act_while (common_of c.args.shared.now) (fixed_of c.args.frame.now) c.args.test.now body
    (c.is_true.ensures.0 c.if-is_true.true)

pub returns-clause-acts : goal.returns-clause-acts
returns-clause-acts c = λ body.
    act_leave (common_of c.args.shared.now) (fixed_of c.args.frame.now) c.args.test.now body
    (λ h. true≢false (sym (c.is_true.ensures.1 h) ∙ c.if-is_true.false))
