use Rattle.std.proofs.Common.{[], ◌≡◌, ◌∙◌, List, Some, ap, map, refl, sym, subst}
use Rattle.std.specs.Mem.Slots.{slots_items}
use Rattle.atomic_table.specs.Seated.{TableId}
use Rattle.atomic_table.specs.Table.{Final, Me, Seen}
use Rattle.sf_part.specs.declared.content.Content.{Content}
use Rattle.sf_part.specs.PartView.{part_of}
use Rattle.sf_region.proofs.Closing.{closing-all}
use Rattle.sf_region.proofs.Draining.{drain-same}
use Rattle.sf_region.specs.declared.views.View.{View}
use Rattle.sf_region.specs.Keys.{begun_of}
use Rattle.sf_region.specs.Plays.{Finished, moved}
use Rattle.sf_region.specs.Rule.{Law, Slot}
use Rattle.sf_region.proofs.regions.Regions.close.Goals.{After-close_with}
use Rattle.sf_region.proofs.regions.Regions.close.Goals as goal

-- the contents of all resources, as the closed table holds them
closed : (c : After-close_with) → (cs : List Content)
    × (slots_items c.close_with.result.slots ≡ map Some cs)
    × Finished c.args.seat.1.begun (part_of c.args.part.now) cs
closed c =
    let w : View = moved c.args.part.now [] c.args.seat.1 in
    let view : c.note_word.new.seat.me.0 ≡ w =
    ap (λ (m : Me Slot View). m.0) c.note_word.ensures.notes.0
    ∙ ap (λ (z : TableId × View). moved c.args.part.now [] z.1) c.seat.view_is in
    closing-all c.part_laws.ensures (begun_of c.self.inside.table.shared.key)
    c.note_word.new.seat.id w _ _
    (subst (λ z. Final (Seen (Law (begun_of c.self.inside.table.shared.key))
    c.note_word.new.seat.id z) (slots_items c.close_with.result.words)
    (slots_items c.close_with.result.slots)) view c.close_with.ensures.values.2)
    (ap (λ (z : TableId × View). z.1.live) (sym c.seat.view_is) ∙ c.seat.invariant.0) refl
    c.requires.may.first c.requires.may.frames c.requires.may.stand c.requires.may.ended

pub drained-requires-clause-contents : goal.drained-requires-clause-contents
drained-requires-clause-contents c =
    let all = closed (goal.at.drained-requires-clause-contents c).After-close_with in
    (all.0, all.1)

pub returns-clause-finished : goal.returns-clause-finished
returns-clause-finished c =
    let all = closed (goal.at.returns-clause-finished c).After-close_with in
    subst (Finished c.args.seat.1.begun (part_of c.args.part.now))
    (drain-same all.0 c.drained.result.items (sym all.1 ∙ c.drained.ensures)) all.2
