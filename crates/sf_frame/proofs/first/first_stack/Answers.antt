use Rattle.std.proofs.Common.{◌∙◌, ap}
use Rattle.std.proofs.lemmas.Result.{IfOk-weaker}
use Rattle.sf_core.specs.Machine.Start.{Beginning, first_frames}
use Rattle.sf_core.specs.Program.ProgramView.{program_of}
use Rattle.sf_frame.specs.Checked.Firsts.{beginning_at}
use Rattle.sf_frame.proofs.Firsts.{beginning_kept}
use Rattle.sf_frame.proofs.first.first_stack.Goals as goal

pub returns : goal.returns
returns c = IfOk-weaker c.stack_with.result _ _
    (λ stack h g b at kind. h g at ∙ ap (λ (z : Beginning). first_frames z c.args.f g)
    (ap (beginning_at (program_of c.args.p.now)) c.first_init-init.ensures.init
    ∙ beginning_kept c.args.p.now c.args.fresh b kind))
    c.stack_with.ensures
