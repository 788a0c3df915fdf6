use Rattle.std.proofs.Common.{ap, ◌∙◌, sym}
use Rattle.sf_core.specs.Machine.Whole.{waiting}
use Rattle.sf_frame.specs.Checked.Frames.{moved}
use Rattle.sf_frame.specs.declared.frame.Way.TheVariants.{Past}
use Rattle.sf_frame.specs.declared.stack.Change.TheVariants.{GoOn}
use Rattle.sf_part.specs.Of.{frames_in}
use Rattle.sf_part.specs.Stands.{stand_in}
use Rattle.sf_part.proofs.stand.Stand.waiting.Goals as goal

pub returns-in-Runs : goal.returns-in-Runs
returns-in-Runs c = ap waiting c.advanced.ensures
    ∙ ap (λ z. waiting (moved (GoOn Past) (frames_in (stand_in z)))) (sym c.in-Runs.is)
