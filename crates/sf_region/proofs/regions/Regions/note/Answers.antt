use Rattle.std.proofs.Common.{[], ◌≡◌, ◌∙◌, ap, sym, subst}
use Rattle.atomic_table.specs.Table.{Me}
use Rattle.sf_part.specs.PartView.{part_of}
use Rattle.sf_region.proofs.Ends.{count-is, taken-now}
use Rattle.sf_region.specs.declared.views.View.{View}
use Rattle.sf_region.specs.Holdings.{taken}
use Rattle.sf_region.specs.Plays.{Known, hollow, moved}
use Rattle.sf_region.specs.Rule.{Slot, holding}
use Rattle.sf_region.specs.Waits.{program_in}
use Rattle.sf_region.proofs.regions.Regions.note.Goals as goal

pub invariant_of-seat : goal.invariant_of-seat
invariant_of-seat c =
    let a = c.args.part.now in
    let m : Me Slot View = c.seat.inside.seat.me in
    let n = c.note_word.ensures.notes.0 in
    let view : c.note_word.new.seat.me.0 ≡ moved a [] m.0 = ap (λ (k : Me Slot View). k.0) n in (
      ap (λ (v : View). v.live) view ∙ c.seat.invariant.0,
      ap (λ (k : Me Slot View). k.1) n ∙ (taken-now (program_in c.args.self.now.1) _
          c.args.seat.now a m c.seat.view_is c.seat.invariant.1 c.requires.near
          ∙ ap (λ (v : View). hollow (taken (holding v))) (sym view)),
      c.task-seat-inside.ensures.path ∙ sym (ap (λ (v : View). (part_of v.part).part.task) view),
      c.clock-now.ensures ∙ sym (ap (λ (v : View). v.part.clock) view),
      c.seat.invariant.4 ∙ sym (ap (λ (v : View). v.missed) view),
      c.counting-misses.ensures ∙ (count-is c.clock-now.ensures c.seat.invariant.3
          c.seat.invariant.5 ∙ sym (ap (λ (v : View). v.misses) view)),
      subst Known (sym view) c.note_word.ensures.notes.2,
    )
