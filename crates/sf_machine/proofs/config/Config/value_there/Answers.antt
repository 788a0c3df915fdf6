use Rattle.std.specs.Prelude.{unwrap_or}
use Rattle.std.proofs.Common.{ap, ◌∙◌}
use Rattle.sf_base.specs.declared.value.Value.TheVariants.{Nil as nil}
use Rattle.sf_base.specs.HeapStore.{Slot}
use Rattle.sf_core.specs.Program.View.{command_of}
use Rattle.sf_frame.specs.Frames.{fixed_of}
use Rattle.sf_frame.specs.Stores.{store_of}
use Rattle.sf_machine.proofs.Enabling.{there_is}
use Rattle.sf_machine.proofs.config.Config.value_there.Goals as goal

pub returns-in-Does : goal.returns-in-Does
returns-in-Does c = (
  fixed_of c.in-Does.frame.now,
  command_of c.in-Does.field-1.now,
  (
    c.in-Does.ensures.0,
    c.in-Does.ensures.1,
    there_is _ _ c.args.task c.turns.result.now _ c.in_ok-at.ensures c.turns.ensures c.in-Does.ensures.2,
  ),
  c.get.ensures
      ∙ ap (λ (z : Slot). unwrap_or (store_of c.args.self.now.common.store z) nil) c.spot.ensures,
)
