use Rattle.std.proofs.Common.{ap, sym, ◌∙◌}
use Rattle.sf_part.specs.declared.part.Part.{Part}
use Rattle.sf_part.specs.PartView.{part_of}
use Rattle.sf_region.specs.declared.views.Begun.{Begun}
use Rattle.sf_region.specs.Waits.{first_of}
use Rattle.sf_turns.proofs.Seats.{going-entry}
use Rattle.sf_turns.proofs.ends.closed.Goals as goal

pub close-part-requires-clause-first : goal.close-part-requires-clause-first
close-part-requires-clause-first c =
    let h = rw c.in-Some.is at c.in_ok-task.ensures in
    let e =
    going-entry c.args.at.p.now c.args.at.regions c.going_keeps_path.ensures c.args.at.f
    c.args.at.task c.in-Some.task c.requires h.gone in
    e.entry
    ∙ sym (ap (λ (b : Begun). (first_of b).part.task) h.gone.now.seat.begun ∙ c.requires.run.first)

pub into_end-requires-clause-entry : goal.into_end-requires-clause-entry
into_end-requires-clause-entry c =
    let h = rw c.in-Some.is at c.in_ok-task.ensures in
    let e =
    going-entry c.args.at.p.now c.args.at.regions c.going_keeps_path.ensures c.args.at.f
    c.args.at.task c.in-Some.task c.requires h.gone in
    ap (λ (a : Part). (part_of a).part.task) c.close-part.ensures.part ∙ e.entry
