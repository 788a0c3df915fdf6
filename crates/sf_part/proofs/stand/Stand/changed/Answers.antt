use Rattle.std.proofs.Common.{ap, sym, ◌∙◌}
use Rattle.sf_core.specs.Machine.Whole.{running}
use Rattle.sf_frame.specs.Checked.Frames.{moved}
use Rattle.sf_part.specs.Of.{frames_in}
use Rattle.sf_part.specs.Stands.{stand_in}
use Rattle.sf_part.proofs.stand.Stand.changed.Goals as goal

pub returns-in-Some : goal.returns-in-Some
returns-in-Some c = ap running c.in-Some.ensures
    ∙ sym (ap (λ z. running (moved c.args.change (frames_in (stand_in z)))) c.in-Runs.is)
