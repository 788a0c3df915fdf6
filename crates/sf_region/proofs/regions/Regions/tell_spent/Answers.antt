use Rattle.std.proofs.Common.{[], ◌≡◌, ◌∙◌, ap, subst}
use Rattle.atomic_table.specs.Seated.{TableId}
use Rattle.atomic_table.specs.Table.{Me}
use Rattle.sf_part.specs.PartView.{part_of}
use Rattle.sf_region.specs.declared.views.View.{View}
use Rattle.sf_region.specs.Plays.{IsDrained, IsSpent, moved}
use Rattle.sf_region.specs.Rule.{Slot}
use Rattle.sf_region.proofs.regions.Regions.tell_spent.Goals as goal

pub drain_word-requires-clause-live : goal.drain_word-requires-clause-live
drain_word-requires-clause-live c =
    ap (λ (m : Me Slot View). m.0.live) c.note_word.ensures.notes.0 ∙ c.seat.invariant.0

pub returns : goal.returns
returns c =
    let a = c.args.part.now in
    let w : View = moved a [] c.args.seat.1 in
    let view : c.note_word.new.seat.me.0 ≡ w =
    ap (λ (m : Me Slot View). m.0) c.note_word.ensures.notes.0
    ∙ ap (λ (z : TableId × View). moved a [] z.1) c.seat.view_is in
    subst (λ (z : View). IsSpent (part_of z.part) → IsDrained z.begun (part_of z.part)) view
    c.drain_word.ensures.1 c.requires.spent
