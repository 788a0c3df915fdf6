use Rattle.std.proofs.Common.{◌∙◌, ap, sym}
use Rattle.sf_part.specs.declared.part.Part.{Part}
use Rattle.sf_part.specs.PartView.{part_of}
use Rattle.sf_region.proofs.Waits.{unmissed}
use Rattle.sf_region.proofs.regions.seated.Goals as goal

pub invariant_of-result : goal.invariant_of-result
invariant_of-result c = (
  c.requires.live,
  c.requires.slots,
  c.task.ensures.path ∙ sym (ap (λ (z : Part). (part_of z).part.task) c.requires.part),
  c.clock.ensures ∙ sym (ap (λ (z : Part). z.clock) c.requires.part),
  sym c.requires.missed.0,
  sym c.requires.missed.1,
  unmissed c.args.seat.me.0 (sym c.requires.missed.1),
)
