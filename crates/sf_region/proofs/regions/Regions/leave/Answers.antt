use Rattle.std.proofs.Common.{rules, ◌∙◌, ap, sym, subst, None}
use Rattle.atomic_table.specs.Seated.{TableId}
use Rattle.atomic_table.specs.Table.{Me, rest}
use Rattle.sf_part.specs.PartView.{part_of}
use Rattle.sf_region.proofs.Ends.{count-is, rest-there, taken-given}
use Rattle.sf_region.specs.Calls.{MayLeave}
use Rattle.sf_region.specs.declared.views.Begun.{Begun}
use Rattle.sf_region.specs.declared.views.View.{View}
use Rattle.sf_region.specs.Holdings.{taken}
use Rattle.sf_region.specs.Plays.{Known, bump, hollow, left}
use Rattle.sf_region.specs.Rule.{Slot, holding}
use Rattle.sf_region.specs.Waits.{program_in}
use Rattle.sf_region.proofs.regions.Regions.leave.Goals as goal

pub exchange-empty-requires : goal.exchange-empty-requires
exchange-empty-requires c = (
  search rules,
  (
    None,
    rest-there (taken-given (program_in c.args.self.now.1) _ c.args.seat.now c.args.part.now
        c.args.r c.args.content c.seat.inside.seat.me c.seat.view_is c.seat.invariant.1
        c.requires.may),
  ),
)

pub leave_word-requires-clause-near : goal.leave_word-requires-clause-near
leave_word-requires-clause-near c =
    let e = c.exchange-empty.ensures in record {
      content = c.args.content;
      may = subst (λ (z : Begun × View). MayLeave (program_in z.0) z.1 c.args.part.now c.args.r
          c.args.content)
          (λ i. (
            sym (ap (λ (z : TableId × Begun). z.1) c.self.view_is) i,
            (sym (ap (λ (z : TableId × View). z.1) c.seat.view_is)
                ∙ ap (λ (k : Me Slot View). k.0) (sym e.3)) i,
          )) c.requires.may;
      more = rest c.seat.inside.seat.me.1;
      deep = ap (λ (k : Me Slot View). k.1) e.3;
    }

pub invariant_of-seat : goal.invariant_of-seat
invariant_of-seat c =
    let a = c.args.part.now in
    let e = c.exchange-empty.ensures in
    let l = c.leave_word.ensures.leaves.0 in
    let g = taken-given (program_in c.args.self.now.1) _ c.args.seat.now a c.args.r c.args.content
    c.seat.inside.seat.me c.seat.view_is c.seat.invariant.1 c.requires.may in (
      ap (λ (k : Me Slot View). k.0.live) l
          ∙ (ap (λ (k : Me Slot View). k.0.live) e.3 ∙ c.seat.invariant.0),
      ap (λ (k : Me Slot View). k.1) l ∙ (ap (λ (k : Me Slot View). rest k.1) e.3
          ∙ (ap rest g ∙ ap (λ (k : Me Slot View). hollow (taken (holding k.0))) (sym l))),
      c.task-seat-inside.ensures.path
          ∙ sym (ap (λ (k : Me Slot View). (part_of k.0.part).part.task) l),
      c.clock-now.ensures ∙ sym (ap (λ (k : Me Slot View). k.0.part.clock) l),
      c.seat.invariant.4 ∙ sym (ap (λ (k : Me Slot View). k.0.missed) l
          ∙ ap (λ (k : Me Slot View). k.0.missed) e.3),
      c.counting-misses.ensures ∙ (count-is c.clock-now.ensures c.seat.invariant.3
          (c.bumped.ensures ∙ ap bump c.seat.invariant.5)
          ∙ sym (ap (λ (k : Me Slot View). k.0.misses) l
          ∙ ap (λ (k : Me Slot View). (left a k.0).misses) e.3)),
      subst Known (sym (ap (λ (k : Me Slot View). k.0) l)) c.leave_word.ensures.leaves.2,
    )
